use Rattle.lk_agreement_laws.proofs.ChangeLaws.{accepted_is_chosen}
use Rattle.lk_agreement_laws.proofs.laws.what_a_majority_accepted_is_chosen.Goals as goal

pub returns : goal.returns
returns c genesis sent n w t i v nodes f at reaches majority heard =
    accepted_is_chosen genesis sent n w t i v nodes f at reaches majority heard
