use Rattle.lk_world_leftovers.proofs.Restarted.{restarted_end}
use Rattle.lk_world_leftovers.proofs.laws.restarted_nodes_end.Goals as goal

pub returns : goal.returns
returns g c = restarted_end g.M.Machine.meaning g.M.Machine.IsText
