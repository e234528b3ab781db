use Rattle.std.proofs.Common.{rules, ◌≡◌, ◌∙◌, ◌-◌, ◌<◌, Some, length, slice_get, refl, subst, sym}
use Rattle.std.proofs.lemmas.Option.{slice_get_read}
use Rattle.lk_healing.proofs.Places.{at_before, place_within, same_some}
use Rattle.lk_healing.proofs.standing.rejects_at.Goals as goal
use Rattle.lk_healing.specs.Standing.{IsRejection}

pub overflow_sub-place : goal.overflow_sub-place
overflow_sub-place c = (place_within c.args.sent.now c.args.place c.requires.there.0 c.requires.there.1).0

pub offset_bounds-sent-place : goal.offset_bounds-sent-place
offset_bounds-sent-place c =
    let lt : c.args.place - 1 < length c.args.sent.now =
    (place_within c.args.sent.now c.args.place c.requires.there.0 c.requires.there.1).1 in
    search rules

pub bounds-sent-place : goal.bounds-sent-place
bounds-sent-place c = (place_within c.args.sent.now c.args.place c.requires.there.0 c.requires.there.1).1

pub returns-in-None-clause-no : goal.returns-in-None-clause-no
returns-in-None-clause-no c e rejection =
    let bounds = place_within c.args.sent.now c.args.place c.requires.there.0 c.requires.there.1 in
    let read : slice_get c.args.sent.now (c.args.place - 1) ≡ Some c.index-sent-place.result =
    slice_get_read c.args.sent.now (length c.args.sent.now) (c.args.place - 1) c.index-sent-place.result refl bounds.1
    (search rules) in
    let same : rejection.0 ≡ c.index-sent-place.result = same_some rejection.0 c.index-sent-place.result
    (sym rejection.1 ∙ at_before c.args.sent.now c.args.place bounds.0 ∙ read) in
    cc (sym c.in-None.is ∙ c.rejection_in.ensures.only (subst IsRejection same rejection.2))
