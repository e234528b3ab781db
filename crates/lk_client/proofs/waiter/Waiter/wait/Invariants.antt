-- The client asked in vain under so many numbers.
use Rattle.std.specs.Prelude.{◌≡◌, ◌+◌}
use Rattle.lk_client.specs.Waiters.{StaysAt}
use Rattle.lk_client.specs.Waits.{TriesInVain, is_later, numbered}
use Rattle.lk_client.proofs.waiter.Waiter.wait.Given as goal

abbrev pub invariant-tries : goal.invariant-tries
invariant-tries g l =
    StaysAt l.question (is_later l.counter) l.self
    × (l.question ≡ numbered (l.fn.question.request.number + l.counter) l.fn.question)
    × (g.S.DatagramSocket.is_observable → TriesInVain g.S.DatagramSocket.sent g.S.DatagramSocket.incoming
    l.fn.question l.counter l.fn.socket l.socket)
