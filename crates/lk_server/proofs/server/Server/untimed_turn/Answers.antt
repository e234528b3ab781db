use Rattle.std.proofs.Common.{◌≡◌, ◌∙◌, true, false, ap, sym}
use Rattle.lk_server.specs.Servers.{ServerValue}
use Rattle.lk_server.proofs.Carrying.{on_err}
use Rattle.lk_server.proofs.Turning.{same_in_group, received_on, without_tick, turn_of, last_of, last_at_nudge}
use Rattle.lk_server.proofs.Turning.{last_within}
use Rattle.lk_server.proofs.server.Server.untimed_turn.Goals as goal

pub returns-clause-turn : goal.returns-clause-turn
returns-clause-turn g c = λ yes.
    let r = g.R.ServerReplica in
    let observable = g.S.DatagramSocket.is_observable in
    let o = c.add_pending.ensures.others in
    let t = c.in_ok-found.ensures.adds (c.is_something.ensures.0 (cc c.if-not-is_something.false)) in
    let n = c.nudge_if_fed.ensures.others in
    let e = c.end_group.ensures in (
      t.0,
      received_on observable t.0 c.args.self.now c.add_pending.new.self c.end_group.new.self
          (λ seen. e.still seen ∙ ap (λ (s : ServerValue _). s.incoming) n) t.1.received,
      turn_of r.Says r.Gathers observable t.0 c.new_group-group.result c.add_pending.new.group c.nudge_if_fed.new.group
          c.args.self.now c.add_pending.new.self c.nudge_if_fed.new.self c.end_group.new.self c.new_group-group.ensures
          (without_tick r.Says r.Gathers observable t.0 c.new_group-group.result c.add_pending.new.group c.args.self.now
          c.add_pending.new.self (ap (λ (s : ServerValue _). s.withheld) o) t.1)
          c.in_ok-nudge_if_fed.ensures.gathers n c.in_ok-end_group.ensures.gives
          (ap (λ (s : ServerValue _). s.sent) o) (ap (λ (s : ServerValue _). s.socket_failures) o)
          (same_in_group c.args.self.now c.add_pending.new.self o) e.addresses e.counts.received e.counts.ticks
          e.counts.withheld e.same c.in_ok-end_group.ensures.alive,
      t.2,
    )

pub returns-in_err-end_group-clause-ends : goal.returns-in_err-end_group-clause-ends
returns-in_err-end_group-clause-ends g c =
    let r = g.R.ServerReplica in
    let observable = g.S.DatagramSocket.is_observable in
    let o = c.add_pending.ensures.others in
    let t = c.in_ok-found.ensures.adds (c.is_something.ensures.0 (cc c.if-not-is_something.false)) in
    let n = c.nudge_if_fed.ensures.others in
    let e = c.end_group.ensures in
    on_err c.from_residual-in_err-end_group.result (
      t.0,
      received_on observable t.0 c.args.self.now c.add_pending.new.self c.end_group.new.self
          (λ seen. e.still seen ∙ ap (λ (s : ServerValue _). s.incoming) n) t.1.received,
      last_of r.Says r.Gathers observable t.0 c.new_group-group.result c.add_pending.new.group c.nudge_if_fed.new.group
          c.args.self.now c.add_pending.new.self c.nudge_if_fed.new.self c.end_group.new.self c.new_group-group.ensures
          (without_tick r.Says r.Gathers observable t.0 c.new_group-group.result c.add_pending.new.group c.args.self.now
          c.add_pending.new.self (ap (λ (s : ServerValue _). s.withheld) o) t.1)
          c.in_ok-nudge_if_fed.ensures.gathers n c.in_err-end_group.ensures.silent
          (ap (λ (s : ServerValue _). s.sent) o) (ap (λ (s : ServerValue _). s.socket_failures) o)
          (same_in_group c.args.self.now c.add_pending.new.self o) e.addresses e.counts.ticks e.same
          c.in_err-end_group.ensures.broken,
    )

pub returns-in_err-nudge_if_fed-clause-ends : goal.returns-in_err-nudge_if_fed-clause-ends
returns-in_err-nudge_if_fed-clause-ends g c =
    let r = g.R.ServerReplica in
    let observable = g.S.DatagramSocket.is_observable in
    let o = c.add_pending.ensures.others in
    let t = c.in_ok-found.ensures.adds (c.is_something.ensures.0 (cc c.if-not-is_something.false)) in
    let n = c.nudge_if_fed.ensures.others in
    on_err c.from_residual-in_err-nudge_if_fed.result (
      t.0,
      received_on observable t.0 c.args.self.now c.add_pending.new.self c.nudge_if_fed.new.self
          (λ seen. ap (λ (s : ServerValue _). s.incoming) n) t.1.received,
      last_at_nudge r.Says r.Gathers observable t.0 c.new_group-group.result c.add_pending.new.group c.args.self.now
          c.add_pending.new.self c.nudge_if_fed.new.self c.new_group-group.ensures
          (without_tick r.Says r.Gathers observable t.0 c.new_group-group.result c.add_pending.new.group c.args.self.now
          c.add_pending.new.self (ap (λ (s : ServerValue _). s.withheld) o) t.1)
          c.in_err-nudge_if_fed.ensures.silent n
          (ap (λ (s : ServerValue _). s.sent) o) (ap (λ (s : ServerValue _). s.socket_failures) o)
          (same_in_group c.args.self.now c.add_pending.new.self o) c.in_err-nudge_if_fed.ensures.broken,
    )

pub returns-in_err-found-clause-ends : goal.returns-in_err-found-clause-ends
returns-in_err-found-clause-ends g c =
    let r = g.R.ServerReplica in
    let o = c.add_pending.ensures.others in
    let e = c.in_err-found.ensures.ends in
    on_err c.from_residual.result (
      e.0,
      e.1.received,
      last_within r.Says r.Gathers g.S.DatagramSocket.is_observable e.0 c.new_group-group.result c.args.self.now
          c.add_pending.new.self c.new_group-group.ensures e.1
          (ap (λ (s : ServerValue _). s.sent) o) (ap (λ (s : ServerValue _). s.socket_failures) o)
          (same_in_group c.args.self.now c.add_pending.new.self o) c.in_err-found.ensures.broken,
    )

pub returns-then-not-is_something-clause-none : goal.returns-then-not-is_something-clause-none
returns-then-not-is_something-clause-none g c = λ no.
    let n = c.in_ok-found.ensures.none
    (λ is. let both : false ≡ true = sym (cc c.if-not-is_something.true) ∙ c.is_something.ensures.1 is in cc both) in
    (n.0, c.in_ok-found.found, n.1, n.2, n.4)
