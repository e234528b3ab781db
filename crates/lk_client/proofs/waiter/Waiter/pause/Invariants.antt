use Rattle.lk_client.specs.Waiters.{StaysAt}
use Rattle.lk_client.specs.Waits.{IsWatchOf, SendsAll}
use Rattle.lk_client.proofs.waiter.Waiter.pause.Given as goal

abbrev pub invariant-steps : goal.invariant-steps
invariant-steps g l =
    StaysAt l.question l.fn.self.is_watching l.self
    × (g.S.DatagramSocket.is_observable → SendsAll (IsWatchOf l.question)
    (g.S.DatagramSocket.sent l.fn.socket) (g.S.DatagramSocket.sent l.socket))
