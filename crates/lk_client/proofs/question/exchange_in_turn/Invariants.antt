-- The bytes went to the places in front, and none of them told anything.
use Rattle.std.specs.Prelude.{◌≤◌, take}
use Rattle.lk_transport.specs.Streams.{next_of}
use Rattle.lk_client.specs.Questions.{TriesInVain}
use Rattle.lk_client.proofs.question.exchange_in_turn.Given as goal

abbrev pub invariant-places : goal.invariant-places
invariant-places g l =
    let sent = g.S.DatagramSocket.sent in
    let failures = g.S.DatagramSocket.failures in
    (l.followed ≤ 20)
    × (g.S.DatagramSocket.is_observable
    → TriesInVain sent failures (next_of g.S.DatagramSocket.incoming) l.question l.patience
    (take l.place-index l.places) l.bytes.items
    (record { socket = l.initial.socket; followed = 0 }) (record { socket = l.socket; followed = l.followed }))
