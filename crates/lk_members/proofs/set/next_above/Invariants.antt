-- The least of the members so far.
use Rattle.std.proofs.Common.{take}
use Rattle.lk_members.specs.Ports.{IsNextAbove}
use Rattle.lk_members.specs.Rosters.{is_member}
use Rattle.lk_members.proofs.set.next_above.Given as goal

abbrev pub invariant-loop-member : goal.invariant-loop-member
invariant-loop-member l = IsNextAbove (λ k. is_member k (take l.member-index l.set)) l.low l.next
