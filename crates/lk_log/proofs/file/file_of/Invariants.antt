use Rattle.std.proofs.Common.{◌≡◌, ◌++◌, length}
use Rattle.std.specs.List.{AllByRecursion}
use Rattle.lk_store_format.specs.Entries.{spelling_of_all, IsStored}
use Rattle.lk_log.proofs.file.file_of.Given as goal

abbrev pub invariant-read : goal.invariant-read
invariant-read l = record {
  so_far : l.bytes ≡ spelling_of_all l.entries.items ++ l.rest;
  fit : AllByRecursion IsStored l.entries.items;
}

abbrev pub decreases-read : goal.decreases-read
decreases-read l = length l.rest
