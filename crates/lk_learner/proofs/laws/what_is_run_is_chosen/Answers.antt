-- By the lemmas of FollowLaws.
use Rattle.lk_learner.proofs.FollowLaws.{next_chosen, next_stands}
use Rattle.lk_learner.proofs.laws.what_is_run_is_chosen.Goals as goal

pub returns-clause-chosen : goal.returns-clause-chosen
returns-clause-chosen c = next_chosen

pub returns-clause-there : goal.returns-clause-there
returns-clause-there c = next_stands
