use Rattle.lk_agreement_laws.proofs.Ranges.{chosen_was_accepted, chosen_fits, chosen_short}
use Rattle.lk_agreement_laws.proofs.laws.what_is_chosen_was_accepted.Goals as goal

pub returns-clause-sent : goal.returns-clause-sent
returns-clause-sent c = chosen_was_accepted

pub returns-clause-in_range : goal.returns-clause-in_range
returns-clause-in_range c genesis sent L i v chosen = chosen_fits genesis sent L chosen i v

pub returns-clause-short : goal.returns-clause-short
returns-clause-short c = chosen_short
