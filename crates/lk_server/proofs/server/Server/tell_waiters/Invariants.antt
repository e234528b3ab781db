-- So many were told, in order.
use Rattle.std.proofs.Common.{◌≡◌, ◌≤◌, List, length}
use Rattle.lk_watch.specs.Seen.{standing_by}
use Rattle.lk_watch.specs.declared.waiter.Envelope.{Envelope}
use Rattle.lk_server.proofs.Telling.{HasTold}
use Rattle.lk_server.proofs.server.Server.tell_waiters.Given as goal

abbrev pub invariant-envelopes : goal.invariant-envelopes
invariant-envelopes g l =
    (envelopes : List Envelope) × (length envelopes ≡ l.counter) × (l.fn.self.waiting.queue.left ≤ 64)
    × HasTold (λ r. standing_by (g.R.ServerReplica.table r) l.seen) g.S.DatagramSocket.is_observable envelopes l.fn.self
    l.self
