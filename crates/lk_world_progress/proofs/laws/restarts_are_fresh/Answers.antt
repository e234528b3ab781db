use Rattle.lk_world_progress.proofs.Restarting.{all_restart}
use Rattle.lk_world_progress.proofs.laws.restarts_are_fresh.Goals as goal

pub returns : goal.returns
returns g c = all_restart g.M.Machine.meaning g.M.Machine.IsText
