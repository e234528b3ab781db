-- One tactic for each goal that a wrong body breaks.
use Rattle.std.proofs.Common.{rules}
use Rattle.lk_sim.proofs.delivery.bound.Goals as goal

pub returns-in-Node-clause-ok : goal.returns-in-Node-clause-ok
returns-in-Node-clause-ok g c = search rules
