use Rattle.lk_agreement_laws.proofs.Signed.{heard_was_sent}
use Rattle.lk_agreement_laws.proofs.laws.what_is_heard_was_sent.Goals as goal

pub returns : goal.returns
returns c genesis sent d n m sound h s = heard_was_sent genesis sent sound d h n m s
