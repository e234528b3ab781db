use Rattle.std.proofs.Common.{◌∙◌, ◌∷◌, ◌++◌, [], length, arith, refl, sym, ap}
use Rattle.std.proofs.lemmas.List.{take_more}
use Rattle.std.proofs.lemmas.Option.{slice_get_read}
use Rattle.std.specs.Prelude.{take}
use Rattle.lk_client.specs.declared.destination.Place.{Place}
use Rattle.lk_client.proofs.Trying.{tries_more, tries_told}
use Rattle.lk_client.proofs.question.exchange_in_turn.Goals as goal

pub places-init : goal.places-init
places-init g c = (omega arith, λ tells. refl)

pub places-preserved : goal.places-preserved
places-preserved g c = (
  c.ask_place-reply.ensures.most,
  λ tells.
      tries_more (take c.places.place-index c.args.places.now) (record { socket = c.args.socket.now; followed = 0 })
      c.ask_place-reply.result (sym c.is_some.ensures ∙ c.if-is_some.false) c.deref.ensures.value
      (take_more c.args.places.now c.places.place-index c.place-item.result c.places-test.true
      ∙ ap (λ (n : Place). take c.places.place-index c.args.places.now ++ n ∷ []) (sym c.place-item.is))
      (c.places.invariant.1 tells) (c.ask_place-reply.ensures.tries tells),
)

pub returns-then-is_some-clause-tries : goal.returns-then-is_some-clause-tries
returns-then-is_some-clause-tries g c tells = record {
  bytes = c.in_ok-bytes.bytes.items;
  spelled = c.in_ok-bytes.ensures.asks;
  followed = c.ask_place-reply.new.followed;
  few = c.ask_place-reply.ensures.most;
  tries = tries_told c.args.places.now c.places.place-index (record { socket = c.args.socket.now; followed = 0 })
      c.ask_place-reply.result (sym c.is_some.ensures ∙ c.if-is_some.true) c.deref.ensures.value
      (slice_get_read c.args.places.now
      (length c.args.places.now) c.places.place-index c.place-item.result refl c.places-test.true c.place-item.is)
      (c.places.invariant.1 tells) (c.ask_place-reply.ensures.tries tells);
}
