use Rattle.std.specs.Prelude.{None}
use Rattle.lk_client.specs.Waiters.{StaysAt}
use Rattle.lk_client.specs.Waits.{Asks}
use Rattle.lk_client.proofs.waiter.Waiter.ask.Given as goal

abbrev pub invariant-places : goal.invariant-places
invariant-places g l =
    StaysAt l.question l.fn.self.is_watching l.self
    × (g.S.DatagramSocket.is_observable → Asks g.S.DatagramSocket.sent g.S.DatagramSocket.incoming
    l.fn.self.is_watching l.question None l.fn.socket l.socket)
