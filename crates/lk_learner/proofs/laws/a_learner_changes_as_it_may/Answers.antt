-- By the lemmas of FollowLaws.
use Rattle.lk_learner.proofs.FollowLaws.{learning_changes, running_changes}
use Rattle.lk_learner.proofs.laws.a_learner_changes_as_it_may.Goals as goal

pub returns-clause-learns : goal.returns-clause-learns
returns-clause-learns c = learning_changes

pub returns-clause-executes : goal.returns-clause-executes
returns-clause-executes c = running_changes
