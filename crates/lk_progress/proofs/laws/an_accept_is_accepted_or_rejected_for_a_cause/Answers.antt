use Rattle.lk_progress.proofs.Rejecting.{accept_has_cause}
use Rattle.lk_progress.proofs.laws.an_accept_is_accepted_or_rejected_for_a_cause.Goals as goal

pub returns : goal.returns
returns g c = accept_has_cause g.M.Machine.meaning g.M.Machine.IsText
