use Rattle.lk_progress.proofs.Deciding.{accepted_answered}
use Rattle.lk_progress.proofs.laws.an_accepted_request_is_answered.Goals as goal

pub returns : goal.returns
returns g c = accepted_answered g.M.Machine.meaning g.M.Machine.IsText
