use Rattle.lk_progress.proofs.Electing.{rejected_above}
use Rattle.lk_progress.proofs.laws.a_rejected_node_goes_above.Goals as goal

pub returns : goal.returns
returns g c = rejected_above g.M.Machine.meaning g.M.Machine.IsText
