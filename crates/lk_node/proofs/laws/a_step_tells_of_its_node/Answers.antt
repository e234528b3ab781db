use Rattle.lk_node.proofs.ToldLaws.{step_told}
use Rattle.lk_node.proofs.laws.a_step_tells_of_its_node.Goals as goal

pub returns : goal.returns
returns g c old new i out steps puts = step_told g.M.Machine.meaning g.M.Machine.IsText old i new out steps puts
