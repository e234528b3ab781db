-- One tactic for each goal that a wrong body breaks.
use Rattle.std.proofs.Common.{rules}
use Rattle.lk_log.proofs.fault.OpenFault.number.Goals as goal

pub returns-in-Damaged : goal.returns-in-Damaged
returns-in-Damaged c = search rules
