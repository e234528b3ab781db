use Rattle.lk_agreement_laws.proofs.Agree.{chosen_agree, at_same_place}
use Rattle.lk_agreement_laws.proofs.laws.chosen_lists_agree.Goals as goal

pub returns-clause-lists : goal.returns-clause-lists
returns-clause-lists c genesis sent L K sound l k = chosen_agree genesis sent sound L K l k

pub returns-clause-members : goal.returns-clause-members
returns-clause-members c genesis sent L K i sound l k = at_same_place genesis sent sound i L K l k
