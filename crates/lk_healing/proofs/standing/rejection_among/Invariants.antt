use Rattle.std.proofs.Common.{◌≡◌, ℕ, ◌<◌, Some, slice_get}
use Rattle.lk_healing.proofs.standing.rejection_among.Given as goal
use Rattle.lk_healing.specs.Standing.{IsRejectionAt}

abbrev pub invariant-places : goal.invariant-places
invariant-places l =
    (k p : ℕ) → k < l.i → slice_get l.fn.places k ≡ Some p → IsRejectionAt l.fn.sent p → ⊥
