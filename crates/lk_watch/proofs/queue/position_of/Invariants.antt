use Rattle.std.proofs.Common.{◌≡◌, ◌+◌, drop}
use Rattle.std.specs.List.{position_or_len}
use Rattle.lk_watch.specs.Waiters.{is_of}
use Rattle.lk_watch.proofs.queue.position_of.Given as goal

-- none so far is that one
abbrev pub invariant-loop-waiter : goal.invariant-loop-waiter
invariant-loop-waiter l =
    (l.at ≡ l.waiter-index) × (position_or_len (is_of l.client l.name) l.waiters
    ≡ l.at + position_or_len (is_of l.client l.name) (drop l.waiter-index l.waiters))
