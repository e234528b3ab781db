use Rattle.std.proofs.Common.{rules, ◌≡◌, Some, length, slice_get, refl}
use Rattle.std.proofs.lemmas.Option.{slice_get_read}
use Rattle.lk_healing.proofs.Places.{at_place}
use Rattle.lk_healing.proofs.finding.place_of.Goals as goal

pub returns-then-eq-2-clause-some : goal.returns-then-eq-2-clause-some
returns-then-eq-2-clause-some c =
    let at : slice_get c.args.sent.now c.places.i ≡ Some c.index-sent-i.result =
    slice_get_read c.args.sent.now (length c.args.sent.now) c.places.i c.index-sent-i.result refl
    (search rules) (search rules) in
    (c.index-sent-i.result, at_place c.args.sent.now c.places.i c.index-sent-i.result at, search rules, search rules)
