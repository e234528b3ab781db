use Rattle.std.proofs.Common.{drop}
use Rattle.std.specs.List.{AllByRecursion}
use Rattle.lk_types.specs.Rosters.{IsMember}
use Rattle.lk_store_format.proofs.header.members_facts.Given as goal

-- all are in range once those that are left are
abbrev pub invariant-loop-member : goal.invariant-loop-member
invariant-loop-member l = AllByRecursion IsMember (drop l.member-index l.members) → AllByRecursion IsMember l.members
