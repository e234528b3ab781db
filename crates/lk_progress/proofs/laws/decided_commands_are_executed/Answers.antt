use Rattle.lk_progress.proofs.Executing.{decided_executed}
use Rattle.lk_progress.proofs.laws.decided_commands_are_executed.Goals as goal

pub returns : goal.returns
returns g c = decided_executed g.M.Machine.meaning g.M.Machine.IsText
