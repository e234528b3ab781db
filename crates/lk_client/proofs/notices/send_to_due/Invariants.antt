-- The bytes went to those in front that get them, and nothing has come.
use Rattle.std.specs.Prelude.{◌≡◌, take}
use Rattle.lk_client.specs.Questions.{SendsEach}
use Rattle.lk_client.specs.Watches.{due_endpoints}
use Rattle.lk_client.proofs.notices.send_to_due.Given as goal

abbrev pub invariant-places : goal.invariant-places
invariant-places g l =
    let sent = g.S.DatagramSocket.sent in
    let failures = g.S.DatagramSocket.failures in
    g.S.DatagramSocket.is_observable
    → SendsEach (due_endpoints (take l.watched-index l.places)) l.bytes
    (sent l.fn.socket) (failures l.fn.socket) (sent l.socket) (failures l.socket)
    × (g.S.DatagramSocket.incoming l.socket ≡ g.S.DatagramSocket.incoming l.fn.socket)
