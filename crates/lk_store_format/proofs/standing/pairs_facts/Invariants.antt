use Rattle.std.proofs.Common.{drop}
use Rattle.std.specs.List.{AllByRecursion}
use Rattle.lk_store_format.specs.Entries.{IsPair}
use Rattle.lk_store_format.proofs.standing.pairs_facts.Given as goal

-- all are in range once those that are left are
abbrev pub invariant-loop-each : goal.invariant-loop-each
invariant-loop-each l = AllByRecursion IsPair (drop l.each-index l.pairs) → AllByRecursion IsPair l.pairs
