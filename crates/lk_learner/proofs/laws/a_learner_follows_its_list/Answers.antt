-- By the lemmas of FollowLaws.
use Rattle.lk_learner.proofs.FollowLaws.{begun_follows, keeping_follows, advanced_follows, installed_follows}
use Rattle.lk_learner.proofs.laws.a_learner_follows_its_list.Goals as goal

pub returns-clause-begins : goal.returns-clause-begins
returns-clause-begins c = begun_follows

pub returns-clause-keeps : goal.returns-clause-keeps
returns-clause-keeps c = keeping_follows

pub returns-clause-runs : goal.returns-clause-runs
returns-clause-runs c = advanced_follows

pub returns-clause-installs : goal.returns-clause-installs
returns-clause-installs c = installed_follows
