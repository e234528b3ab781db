use Rattle.std.proofs.Common.{◌≡◌, ◌≤◌, take}
use Rattle.std.specs.List.{count_by}
use Rattle.lk_watch.specs.Waiters.{waits_for}
use Rattle.lk_watch.proofs.queue.count_waiting.Given as goal

-- those so far
abbrev pub invariant-loop-waiter : goal.invariant-loop-waiter
invariant-loop-waiter l =
    (l.count ≡ count_by (waits_for l.name) (take l.waiter-index l.waiters)) × (l.count ≤ l.waiter-index)
