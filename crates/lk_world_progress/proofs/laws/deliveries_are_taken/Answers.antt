use Rattle.lk_world_progress.proofs.Delivering.{deliveries_taken}
use Rattle.lk_world_progress.proofs.laws.deliveries_are_taken.Goals as goal

pub returns : goal.returns
returns g c = deliveries_taken g.M.Machine.meaning g.M.Machine.IsText
