use Rattle.lk_world_leftovers.proofs.Restarted.{restarted_may_contend}
use Rattle.lk_world_leftovers.proofs.laws.restarted_nodes_may_contend.Goals as goal

pub returns : goal.returns
returns g c = restarted_may_contend g.M.Machine.meaning g.M.Machine.IsText
