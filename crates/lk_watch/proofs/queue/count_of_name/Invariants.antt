use Rattle.std.proofs.Common.{◌≡◌, ◌≤◌, take}
use Rattle.std.specs.List.{count_by}
use Rattle.lk_watch.specs.Waiters.{is_named}
use Rattle.lk_watch.proofs.queue.count_of_name.Given as goal

-- those so far
abbrev pub invariant-loop-waiter : goal.invariant-loop-waiter
invariant-loop-waiter l =
    (l.count ≡ count_by (is_named l.name) (take l.waiter-index l.waiters)) × (l.count ≤ l.waiter-index)
