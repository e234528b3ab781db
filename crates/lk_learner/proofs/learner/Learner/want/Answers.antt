-- One tactic for each goal that a wrong body breaks.
use Rattle.std.proofs.Common.{rules}
use Rattle.lk_learner.proofs.learner.Learner.want.Goals as goal

pub returns-in_err-first : goal.returns-in_err-first
returns-in_err-first g c = search rules

pub returns : goal.returns
returns g c = search rules
