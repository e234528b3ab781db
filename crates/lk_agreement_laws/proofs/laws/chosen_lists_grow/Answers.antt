use Rattle.lk_agreement_laws.proofs.Agree.{entry_chosen}
use Rattle.lk_agreement_laws.proofs.Grow.{still_chosen, chosen_push, chosen_take}
use Rattle.lk_agreement_laws.proofs.laws.chosen_lists_grow.Goals as goal

pub returns-clause-later : goal.returns-clause-later
returns-clause-later c genesis sent new L = still_chosen genesis sent new L

pub returns-clause-longer : goal.returns-clause-longer
returns-clause-longer c genesis sent L v sound = chosen_push genesis sent sound L v

pub returns-clause-each : goal.returns-clause-each
returns-clause-each c genesis sent L i v chosen = entry_chosen genesis sent L chosen i v

pub returns-clause-prefix : goal.returns-clause-prefix
returns-clause-prefix c = chosen_take
