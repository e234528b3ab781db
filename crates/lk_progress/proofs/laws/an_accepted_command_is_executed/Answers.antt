use Rattle.lk_progress.proofs.Deciding.{accepted_executed}
use Rattle.lk_progress.proofs.laws.an_accepted_command_is_executed.Goals as goal

pub returns : goal.returns
returns g c = accepted_executed g.M.Machine.meaning g.M.Machine.IsText
