-- Those of the clients so far that stay.
use Rattle.std.proofs.Common.{◌≡◌, ◌≤◌, length, take}
use Rattle.lk_locks.specs.Sharers.{without}
use Rattle.lk_locks.proofs.sharers.Sharers.without.Given as goal

abbrev pub invariant-loop-other : goal.invariant-loop-other
invariant-loop-other l = record {
  left : l.left.items ≡ without l.client (take l.other-index l.self);
  few : length l.left.items ≤ l.other-index;
}
