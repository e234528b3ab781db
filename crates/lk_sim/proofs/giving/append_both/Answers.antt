-- One tactic for each goal that a wrong body breaks.
use Rattle.std.proofs.Common.{rules}
use Rattle.lk_sim.proofs.giving.append_both.Goals as goal

pub returns-clause-trace : goal.returns-clause-trace
returns-clause-trace c = search rules
