-- By the lemmas of FollowLaws.
use Rattle.lk_learner.proofs.FollowLaws.{served_chosen, served_stands}
use Rattle.lk_learner.proofs.laws.what_is_served_is_chosen.Goals as goal

pub returns-clause-may : goal.returns-clause-may
returns-clause-may c =
    λ m genesis sent w l first stems f is. served_chosen m genesis sent w.done w.pairs l first stems.done f is

pub returns-clause-there : goal.returns-clause-there
returns-clause-there c = served_stands
