-- One tactic for each goal that a wrong body breaks.
use Rattle.std.proofs.Common.{rules}
use Rattle.lk_recovery.proofs.base.is_rebase_due.Goals as goal

pub returns-clause-value : goal.returns-clause-value
returns-clause-value g c = search rules

pub returns-clause-small : goal.returns-clause-small
returns-clause-small g c = search rules
