-- Those of the members so far that are among the nodes.
use Rattle.std.proofs.Common.{◌≡◌, ◌≤◌, length, take}
use Rattle.lk_leader.specs.Acceptances.{members_among}
use Rattle.lk_leader.proofs.proposal.members_of.Given as goal

abbrev pub invariant-loop-member : goal.invariant-loop-member
invariant-loop-member l = record {
  among : l.among.items ≡ members_among (take l.member-index l.members) l.nodes;
  few : length l.among.items ≤ l.member-index;
}
