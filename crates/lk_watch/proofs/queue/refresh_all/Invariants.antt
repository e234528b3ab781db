use Rattle.std.proofs.Common.{◌≡◌, ◌++◌, map, take, drop}
use Rattle.lk_watch.specs.Waiters.{refreshed}
use Rattle.lk_watch.proofs.queue.refresh_all.Given as goal

-- those so far
abbrev pub invariant-loop-waiter : goal.invariant-loop-waiter
invariant-loop-waiter g l =
    l.waiters ≡ map (refreshed (g.T.NameTable.holds l.table) l.count) (take l.waiter-index l.fn.waiters)
    ++ drop l.waiter-index l.fn.waiters
