use Rattle.std.proofs.Common.{rules, ◌≡◌}
use Rattle.lk_transport.specs.Watches.{SendsNotice}
use Rattle.lk_server.specs.Servers.{send_state_at}
use Rattle.lk_server.proofs.Telling.{answered}
use Rattle.lk_server.proofs.server.Server.answer_watch.Goals as goal

pub returns-in-Some-hear_watch-clause-answers : goal.returns-in-Some-hear_watch-clause-answers
returns-in-Some-hear_watch-clause-answers g c =
    let observable = g.S.DatagramSocket.is_observable in
    let mid = c.hear_watch.new.self in
    let new = c.send_notice.new.self in
    let envelope = c.in-Some-hear_watch.envelope in
    let sends : SendsNotice observable mid.addresses.seals mid.node envelope (send_state_at mid.loopback mid)
    (send_state_at new.loopback new) = rw (← c.self.view_is) c.send_notice.ensures.sends in
    let others : new ≡ record mid {
      sent = new.sent;
      socket_failures = new.socket_failures;
      incoming = new.incoming;
    } = rw (← c.self.view_is) c.send_notice.ensures.others in
    rw c.in-Some.is
    (answered (g.R.ServerReplica.table c.args.self.now.replica) observable c.args.speaks c.in-Some.received envelope
    c.args.self.now mid new (search rules) c.hear_watch.ensures.others sends others)
