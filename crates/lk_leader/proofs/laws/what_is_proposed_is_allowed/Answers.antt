-- By the lemmas of LedTermLaws.
use Rattle.lk_leader.proofs.LedTermLaws.{proposes_allowed, proposes_asked}
use Rattle.lk_leader.proofs.laws.what_is_proposed_is_allowed.Goals as goal

pub returns-clause-allowed : goal.returns-clause-allowed
returns-clause-allowed c = proposes_allowed

pub returns-clause-asked : goal.returns-clause-asked
returns-clause-asked c = proposes_asked
