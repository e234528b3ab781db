-- The bytes went to the place, and none of the receives told anything.
use Rattle.std.specs.Prelude.{◌≤◌, None}
use Rattle.lk_transport.specs.Streams.{next_of}
use Rattle.lk_transport.specs.Chains.{Repeats}
use Rattle.lk_client.specs.Questions.{Receives}
use Rattle.lk_client.proofs.question.ask_place.Given as goal

abbrev pub invariant-receives : goal.invariant-receives
invariant-receives g l =
    let sent = g.S.DatagramSocket.sent in
    let failures = g.S.DatagramSocket.failures in
    (l.followed ≤ 20)
    × (g.S.DatagramSocket.is_observable
    → Repeats (Receives sent failures (next_of g.S.DatagramSocket.incoming) l.question l.bytes None) l.counter
    (record { socket = l.initial.socket; followed = l.initial.followed })
    (record { socket = l.socket; followed = l.followed }))
