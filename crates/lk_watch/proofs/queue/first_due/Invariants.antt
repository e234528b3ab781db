use Rattle.lk_watch.specs.Queues.{NoneDueBefore}
use Rattle.lk_watch.proofs.queue.first_due.Given as goal

-- none so far is to be told
abbrev pub invariant-loop-index : goal.invariant-loop-index
invariant-loop-index g l = NoneDueBefore (g.T.NameTable.standing l.table) l.waiters l.index
