-- One tactic for each goal that a wrong body breaks.
use Rattle.std.proofs.Common.{rules}
use Rattle.lk_sim.proofs.giving.add.Goals as goal

pub returns-then-is_nothing-clause-err : goal.returns-then-is_nothing-clause-err
returns-then-is_nothing-clause-err g c = search rules

pub returns-then-is_nothing-clause-wants : goal.returns-then-is_nothing-clause-wants
returns-then-is_nothing-clause-wants g c = search rules

pub returns-in_err-all-clause-wants : goal.returns-in_err-all-clause-wants
returns-in_err-all-clause-wants g c = search rules

pub returns-in_err-append_both-clause-wants : goal.returns-in_err-append_both-clause-wants
returns-in_err-append_both-clause-wants g c = search rules
