-- By the lemmas of PairLaws.
use Rattle.lk_learner.proofs.PairLaws.{kept_within, kept_once, kept_few, without_next}
use Rattle.lk_learner.proofs.laws.kept_pairs_are_near_and_few.Goals as goal

pub returns-clause-near : goal.returns-clause-near
returns-clause-near c = kept_within

pub returns-clause-once : goal.returns-clause-once
returns-clause-once c = kept_once

pub returns-clause-few : goal.returns-clause-few
returns-clause-few c = kept_few

pub returns-clause-fewer : goal.returns-clause-fewer
returns-clause-fewer c = without_next
