use Rattle.lk_progress.proofs.Deciding.{near_accepts}
use Rattle.lk_progress.proofs.laws.a_near_node_accepts.Goals as goal

pub returns : goal.returns
returns g c = near_accepts g.M.Machine.meaning g.M.Machine.IsText
