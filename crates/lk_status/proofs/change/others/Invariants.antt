-- Those of the members so far that stay.
use Rattle.std.proofs.Common.{◌≡◌, ◌≤◌, length, take}
use Rattle.lk_members.specs.Rosters.{others}
use Rattle.lk_status.proofs.change.others.Given as goal

abbrev pub invariant-loop-member : goal.invariant-loop-member
invariant-loop-member l = record {
  left : l.left.items ≡ others l.node (take l.member-index l.members);
  few : length l.left.items ≤ l.member-index;
}
