use Rattle.std.proofs.Common.{ap}
use Rattle.lk_server.specs.Servers.{ServerValue}
use Rattle.lk_server.proofs.Carrying.{on_err}
use Rattle.lk_server.proofs.Turning.{tick_of, tick_ends, tick_silent}
use Rattle.lk_server.proofs.server.Server.tick.Goals as goal

pub returns-clause-hands_on : goal.returns-clause-hands_on
returns-clause-hands_on g c =
    let r = g.R.ServerReplica in
    let o = c.add_tick.ensures.others in
    tick_of r.Says r.Gathers g.S.DatagramSocket.is_observable c.end_group.result c.new_group-group.result
    c.add_tick.new.group c.args.self.now c.add_tick.new.self c.end_group.new.self c.new_group-group.ensures
    c.in_ok-add_tick.ensures.gathers
    (ap (λ (s : ServerValue _). s.loopback) o) (ap (λ (s : ServerValue _). s.sent) o)
    (ap (λ (s : ServerValue _). s.socket_failures) o) c.end_group.ensures.gives

pub returns-clause-ends : goal.returns-clause-ends
returns-clause-ends g c =
    let r = g.R.ServerReplica in
    let o = c.add_tick.ensures.others in
    tick_ends r.Says r.Gathers g.S.DatagramSocket.is_observable c.end_group.result c.new_group-group.result
    c.add_tick.new.group c.args.self.now c.add_tick.new.self c.end_group.new.self c.new_group-group.ensures
    c.in_ok-add_tick.ensures.gathers
    (ap (λ (s : ServerValue _). s.loopback) o) (ap (λ (s : ServerValue _). s.sent) o)
    (ap (λ (s : ServerValue _). s.socket_failures) o) c.end_group.ensures.silent

pub returns-in_err-add_tick-clause-ends : goal.returns-in_err-add_tick-clause-ends
returns-in_err-add_tick-clause-ends g c =
    let r = g.R.ServerReplica in
    let o = c.add_tick.ensures.others in
    on_err c.from_residual.result
    (tick_silent r.Says r.Gathers g.S.DatagramSocket.is_observable c.new_group-group.result c.args.self.now
    c.add_tick.new.self c.new_group-group.ensures c.in_err-add_tick.ensures.silent
    (ap (λ (s : ServerValue _). s.loopback) o) (ap (λ (s : ServerValue _). s.sent) o)
    (ap (λ (s : ServerValue _). s.socket_failures) o))
