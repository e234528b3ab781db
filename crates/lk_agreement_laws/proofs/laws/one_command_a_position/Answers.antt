use Rattle.lk_agreement_laws.proofs.Agree.{one_chosen}
use Rattle.lk_agreement_laws.proofs.laws.one_command_a_position.Goals as goal

pub returns : goal.returns
returns c genesis sent i v w sound = one_chosen genesis sent sound i v w
