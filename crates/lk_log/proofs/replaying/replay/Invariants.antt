use Rattle.std.specs.List.{AllByRecursion}
use Rattle.lk_store_format.specs.Entries.{IsStored}
use Rattle.lk_store_format.specs.Standings.{Rises}
use Rattle.lk_store_format.proofs.StandingLaws.{StandsSoFar}
use Rattle.lk_log.proofs.replaying.replay.Given as goal

-- what stands so far, in order, and what is left is in its range
abbrev pub invariant-loop-entry : goal.invariant-loop-entry
invariant-loop-entry l =
    StandsSoFar l.yielded l.standing × Rises l.standing × AllByRecursion IsStored l.entry-iterator.rest.items
