use Rattle.std.proofs.Common.{drop}
use Rattle.std.specs.List.{AllByRecursion}
use Rattle.lk_store_format.specs.Entries.{IsStored, plain}
use Rattle.lk_store_format.proofs.writing.entries_facts.Given as goal

-- all fit once those that are left do
abbrev pub invariant-loop-entry : goal.invariant-loop-entry
invariant-loop-entry l =
    AllByRecursion IsStored (plain (drop l.entry-index l.entries)) → AllByRecursion IsStored (plain l.entries)
