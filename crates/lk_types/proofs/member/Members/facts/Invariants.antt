use Rattle.std.proofs.Common.{drop}
use Rattle.std.specs.List.{AllByRecursion}
use Rattle.lk_types.specs.Rosters.{IsMember}
use Rattle.lk_types.proofs.member.Members.facts.Given as goal

-- where all that are left are in range, all are
abbrev pub invariant-loop-member : goal.invariant-loop-member
invariant-loop-member l = AllByRecursion IsMember (drop l.member-index l.members) → AllByRecursion IsMember l.members
