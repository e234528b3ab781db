use Rattle.lk_watch.specs.Seen.{standing_by}
use Rattle.lk_server.proofs.Telling.{tells_next}
use Rattle.lk_server.proofs.server.Server.tell_next.Goals as goal

pub returns-clause-told : goal.returns-clause-told
returns-clause-told g c = λ yes.
    tells_next (λ r. standing_by (g.R.ServerReplica.table r) c.args.seen.now) g.S.DatagramSocket.is_observable
    c.in-Some.envelope c.args.self.now
    c.next_notice.new.self c.send_notice.new.self c.in-Some.ensures.some c.next_notice.ensures.others
    c.send_notice.ensures.sends c.send_notice.ensures.others
