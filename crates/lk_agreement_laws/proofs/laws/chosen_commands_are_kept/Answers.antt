use Rattle.lk_agreement_laws.proofs.Runs.{kept_by_majority}
use Rattle.lk_agreement_laws.proofs.laws.chosen_commands_are_kept.Goals as goal

pub returns : goal.returns
returns c genesis sent L i v sound chosen at = kept_by_majority genesis sent sound L chosen i v at
