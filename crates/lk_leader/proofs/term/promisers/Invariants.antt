-- Those of the members so far that promised.
use Rattle.std.proofs.Common.{◌≡◌, ◌≤◌, length, take}
use Rattle.lk_leader.specs.Proposing.{promisers}
use Rattle.lk_leader.proofs.term.promisers.Given as goal

abbrev pub invariant-loop-member : goal.invariant-loop-member
invariant-loop-member l = record {
  among : l.among.items ≡ promisers (take l.member-index l.members) l.position l.received;
  few : length l.among.items ≤ l.member-index;
}
