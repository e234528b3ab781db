-- Those that are left decide.
use Rattle.std.proofs.Common.{drop}
use Rattle.std.specs.List.{AllByRecursion}
use Rattle.lk_types.specs.Rosters.{IsMember}
use Rattle.lk_members.proofs.set.facts_of.Given as goal

abbrev pub invariant-loop-member : goal.invariant-loop-member
invariant-loop-member l = AllByRecursion IsMember (drop l.member-index l.members) → AllByRecursion IsMember l.members
