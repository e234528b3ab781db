use Rattle.std.proofs.Common.{◌≡◌, ◌≤◌, ◌*◌, take}
use Rattle.std.specs.List.{sum_by}
use Rattle.lk_watch.specs.Waiters.{load}
use Rattle.lk_watch.proofs.queue.leave_place.Given as goal

-- those so far, each of whom takes eight places at most
abbrev pub invariant-loop-waiter : goal.invariant-loop-waiter
invariant-loop-waiter l =
    (l.total ≡ sum_by (load l.standing l.name) (take l.waiter-index l.waiters)) × (l.total ≤ 8 * l.waiter-index)
