-- One tactic for each goal that a wrong body breaks.
use Rattle.std.proofs.Common.{rules}
use Rattle.lk_learner.proofs.learner.Learner.is_near.Goals as goal

pub returns-then-executed-get : goal.returns-then-executed-get
returns-then-executed-get g c = search rules
