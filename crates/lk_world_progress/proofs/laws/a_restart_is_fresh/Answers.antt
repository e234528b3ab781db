use Rattle.lk_world_progress.proofs.Restarting.{restarts}
use Rattle.lk_world_progress.proofs.laws.a_restart_is_fresh.Goals as goal

pub returns : goal.returns
returns g c = restarts g.M.Machine.meaning g.M.Machine.IsText
