use Rattle.lk_progress.proofs.Rejecting.{prepare_has_cause}
use Rattle.lk_progress.proofs.laws.a_prepare_is_promised_or_rejected_for_a_cause.Goals as goal

pub returns : goal.returns
returns g c = prepare_has_cause g.M.Machine.meaning g.M.Machine.IsText
