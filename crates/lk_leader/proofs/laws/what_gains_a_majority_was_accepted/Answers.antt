-- By the lemma of LedTermLaws.
use Rattle.lk_leader.proofs.LedTermLaws.{majority_rests}
use Rattle.lk_leader.proofs.laws.what_gains_a_majority_was_accepted.Goals as goal

pub returns : goal.returns
returns c = majority_rests
