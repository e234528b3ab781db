use Rattle.lk_world_leftovers.proofs.Leveling.{level_nodes_contend}
use Rattle.lk_world_leftovers.proofs.laws.level_nodes_contend.Goals as goal

pub returns : goal.returns
returns g c = level_nodes_contend g.M.Machine.meaning g.M.Machine.IsText
