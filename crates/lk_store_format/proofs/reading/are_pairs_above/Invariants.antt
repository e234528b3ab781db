use Rattle.std.proofs.Common.{◌≡◌, drop}
use Rattle.lk_store_format.specs.Entries.{are_pairs_above}
use Rattle.lk_store_format.proofs.reading.are_pairs_above.Given as goal

-- what is left rises above the last position exactly where all do
abbrev pub invariant-loop-position : goal.invariant-loop-position
invariant-loop-position l = are_pairs_above l.low (drop l.position-index l.pairs) ≡ are_pairs_above l.fn.low l.pairs
