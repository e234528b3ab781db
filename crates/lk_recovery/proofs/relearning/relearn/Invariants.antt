use Rattle.std.proofs.Common.{◌++◌, drop}
use Rattle.lk_recovery.proofs.Rerunning.{Comes}
use Rattle.lk_recovery.proofs.relearning.relearn.Given as goal

abbrev pub invariant-pairs : goal.invariant-pairs
invariant-pairs g l = Comes g.M.Machine.meaning l.node l.fn.whole l.pairs l.learner l.notes.items
    (l.learner.pairs ++ drop l.pair-index l.pairs)
