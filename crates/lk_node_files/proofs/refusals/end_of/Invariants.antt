-- what was read so far are entries
use Rattle.std.proofs.Common.{◌≡◌, ◌++◌, List, length}
use Rattle.std.specs.List.{AllByRecursion}
use Rattle.lk_store_format.specs.Entries.{spelling_of_all, IsStored}
use Rattle.lk_store_format.specs.declared.stored.Stored.{Stored}
use Rattle.lk_node_files.proofs.refusals.end_of.Given as goal

abbrev pub invariant-entries : goal.invariant-entries
invariant-entries l = (es : List Stored) × (l.bytes ≡ spelling_of_all es ++ l.rest) × AllByRecursion IsStored es

abbrev pub decreases-entries : goal.decreases-entries
decreases-entries l = length l.rest
