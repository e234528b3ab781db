-- The parts so far.
use Rattle.std.proofs.Common.{◌≡◌, ◌<◌, ◌+◌, ◌*◌, ℕ, length, Some, slice_get}
use Rattle.lk_messages.specs.Values.{PartValue}
use Rattle.lk_learner.specs.Parts.{part_of}
use Rattle.lk_learner.proofs.parts.parts_behind.Given as goal

abbrev pub invariant-parts : goal.invariant-parts
invariant-parts l = (length l.parts.items ≡ l.index)
    × ((k : ℕ) (p : PartValue) → slice_get l.parts.items k ≡ Some p
    → (p ≡ part_of l.position l.text (l.start + k * 1024)) × (l.start + k * 1024 < length l.text))
