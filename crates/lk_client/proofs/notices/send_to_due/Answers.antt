use Rattle.std.proofs.Common.{◌∙◌, ◌∷◌, ◌++◌, [], refl, sym, ap}
use Rattle.std.proofs.lemmas.List.{take_more}
use Rattle.std.specs.Prelude.{take}
use Rattle.lk_client.specs.declared.notices.WatchedPlace.{WatchedPlace}
use Rattle.lk_client.proofs.Spreading.{place_more}
use Rattle.lk_client.proofs.notices.send_to_due.Goals as goal

pub places-init : goal.places-init
places-init g c tells = ((refl, refl), refl)

pub places-preserved : goal.places-preserved
places-preserved g c tells = (
  let sent = g.S.DatagramSocket.sent in
      let failures = g.S.DatagramSocket.failures in
      place_more c.args.bytes.now (take c.places.watched-index c.args.places.now) c.watched-item.result
      (sent c.args.socket.now) (failures c.args.socket.now) (sent c.places.socket) (failures c.places.socket)
      (sent c.send_if_due.new.socket) (failures c.send_if_due.new.socket)
      (take_more c.args.places.now c.places.watched-index c.watched-item.result c.places-test.true
      ∙ ap (λ (p : WatchedPlace). take c.places.watched-index c.args.places.now ++ p ∷ []) (sym c.watched-item.is))
      (c.places.invariant tells).0 (c.send_if_due.ensures.due tells)
      (λ none. (ap sent (c.send_if_due.ensures.none none), ap failures (c.send_if_due.ensures.none none))),
  c.send_if_due.ensures.still tells ∙ (c.places.invariant tells).1,
)
