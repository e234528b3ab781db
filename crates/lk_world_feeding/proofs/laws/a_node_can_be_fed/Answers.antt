use Rattle.lk_world_feeding.proofs.Ways.{all_fed}
use Rattle.lk_world_feeding.proofs.laws.a_node_can_be_fed.Goals as goal

pub returns : goal.returns
returns g c = all_fed g.M.Machine.meaning g.M.Machine.IsText
