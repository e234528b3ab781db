-- One tactic for each goal that a wrong body breaks.
use Rattle.std.proofs.Common.{arith}
use Rattle.std.proofs.lemmas.Grind.{common_steps}
use Rattle.lk_sim_nodes.proofs.finding.find_up.Goals as goal

pub returns-in-Down-clause-err : goal.returns-in-Down-clause-err
returns-in-Down-clause-err g c = grind (arith, common_steps)
