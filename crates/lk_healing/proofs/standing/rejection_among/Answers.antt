use Rattle.std.proofs.Common.{rules, ◌≡◌, Some, get_or, slice_get}
use Rattle.std.proofs.lemmas.Option.{slice_get-get_or}
use Rattle.lk_healing.proofs.Places.{contains_at, none_contained, one_more}
use Rattle.lk_healing.proofs.standing.rejection_among.Goals as goal
use Rattle.lk_healing.specs.Standing.{IsRejectionAt}

pub rejects_at-requires : goal.rejects_at-requires
rejects_at-requires c =
    let at : slice_get c.args.places.now c.places.i ≡ Some (get_or c.args.places.now c.places.i 0) =
    slice_get-get_or c.args.places.now c.places.i 0 (search rules) in
    record {
      there = c.requires.there (get_or c.args.places.now c.places.i 0)
          (contains_at c.args.places.now c.places.i (get_or c.args.places.now c.places.i 0) at);
    }

pub returns-then-rejects_at-clause-some : goal.returns-then-rejects_at-clause-some
returns-then-rejects_at-clause-some c =
    let at : slice_get c.args.places.now c.places.i ≡ Some (get_or c.args.places.now c.places.i 0) =
    slice_get-get_or c.args.places.now c.places.i 0 (search rules) in (
      contains_at c.args.places.now c.places.i (get_or c.args.places.now c.places.i 0) at,
      c.rejects_at.ensures.yes (search rules),
    )

pub places-preserved : goal.places-preserved
places-preserved c =
    one_more c.args.places.now c.places.i (get_or c.args.places.now c.places.i 0) (IsRejectionAt c.args.sent.now)
    (slice_get-get_or c.args.places.now c.places.i 0 (search rules)) (c.rejects_at.ensures.no (search rules))
    c.places.invariant

pub returns-clause-none : goal.returns-clause-none
returns-clause-none c e =
    none_contained c.args.places.now c.places.i (IsRejectionAt c.args.sent.now) (search rules) c.places.invariant
