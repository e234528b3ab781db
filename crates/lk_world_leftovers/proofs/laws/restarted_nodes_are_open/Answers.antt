use Rattle.lk_world_leftovers.proofs.Restarted.{restarted_open}
use Rattle.lk_world_leftovers.proofs.laws.restarted_nodes_are_open.Goals as goal

pub returns : goal.returns
returns g c = restarted_open g.M.Machine.meaning g.M.Machine.IsText
