use Rattle.lk_world_leftovers.proofs.Leveling.{unlevel_can_be_fed}
use Rattle.lk_world_leftovers.proofs.laws.unlevel_nodes_can_be_fed.Goals as goal

pub returns : goal.returns
returns g c = unlevel_can_be_fed g.M.Machine.meaning g.M.Machine.IsText c.a_node_can_be_fed.ensures
