use Rattle.std.proofs.Common.{◌≡◌, ◌++◌, drop}
use Rattle.lk_store_format.specs.Entries.{spelling_of_all, plain}
use Rattle.lk_store_format.proofs.writing.encode.Given as goal

abbrev pub invariant-loop-entry : goal.invariant-loop-entry
invariant-loop-entry l =
    l.out.items ++ spelling_of_all (plain (drop l.entry-index l.entries)) ≡ spelling_of_all (plain l.entries)
