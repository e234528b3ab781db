-- One tactic for each goal that a wrong body breaks.
use Rattle.std.proofs.Common.{rules}
use Rattle.lk_learner.proofs.gathered.Gathered.state.Goals as goal

pub returns-clause-some : goal.returns-clause-some
returns-clause-some g c = search rules
