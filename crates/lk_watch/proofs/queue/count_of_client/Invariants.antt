use Rattle.std.proofs.Common.{◌≡◌, ◌≤◌, take}
use Rattle.std.specs.List.{count_by}
use Rattle.lk_watch.specs.Waiters.{is_client}
use Rattle.lk_watch.proofs.queue.count_of_client.Given as goal

-- those so far
abbrev pub invariant-loop-waiter : goal.invariant-loop-waiter
invariant-loop-waiter l =
    (l.count ≡ count_by (is_client l.client) (take l.waiter-index l.waiters)) × (l.count ≤ l.waiter-index)
