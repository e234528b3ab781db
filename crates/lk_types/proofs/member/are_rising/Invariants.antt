use Rattle.std.proofs.Common.{◌≡◌, drop}
use Rattle.lk_types.specs.Rosters.{members_rise}
use Rattle.lk_types.proofs.member.are_rising.Given as goal

-- what is left rises above the last node exactly where all do above 0
abbrev pub invariant-loop-member : goal.invariant-loop-member
invariant-loop-member l = members_rise l.low (drop l.member-index l.members) ≡ members_rise 0 l.members
