use Rattle.lk_log.proofs.RebaseLaws.{base_spelled}
use Rattle.lk_log.proofs.laws.bases_are_short.Goals as goal

pub returns : goal.returns
returns c = λ b fits. base_spelled b fits.0.1 fits.0.2.5 fits.0.2.8
