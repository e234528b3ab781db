use Rattle.std.proofs.Common.{◌≡◌, drop}
use Rattle.lk_recovery.specs.Revivals.{run_from, all_ran}
use Rattle.lk_locks.specs.Meaning.{table_meaning}
use Rattle.lk_inspect.proofs.state.run_on.Given as goal

-- what is still to come leads where all of it does
abbrev pub invariant-loop-pair : goal.invariant-loop-pair
invariant-loop-pair l = all_ran table_meaning (run_from l.whole.roster.executed (drop l.pair-index l.pairs)) l.whole
    ≡ all_ran table_meaning (run_from l.fn.whole.roster.executed l.pairs) l.fn.whole
