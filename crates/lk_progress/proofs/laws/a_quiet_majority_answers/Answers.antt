use Rattle.lk_progress.proofs.Exchanges.{quiet_answers}
use Rattle.lk_progress.proofs.laws.a_quiet_majority_answers.Goals as goal

pub returns : goal.returns
returns g c = quiet_answers g.M.Machine.meaning g.M.Machine.IsText
