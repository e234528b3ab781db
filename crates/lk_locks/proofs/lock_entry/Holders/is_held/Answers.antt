-- One tactic for each goal that a wrong body breaks.
use Rattle.std.proofs.Common.{rules}
use Rattle.lk_locks.proofs.lock_entry.Holders.is_held.Goals as goal

pub returns-in-ExclusiveHold : goal.returns-in-ExclusiveHold
returns-in-ExclusiveHold c = search rules

pub returns-in-ExclusiveHold-2 : goal.returns-in-ExclusiveHold-2
returns-in-ExclusiveHold-2 c = search rules
