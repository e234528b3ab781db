use Rattle.lk_world_progress.proofs.Overtaking.{nack_raises}
use Rattle.lk_world_progress.proofs.laws.a_delivered_rejection_raises.Goals as goal

pub returns : goal.returns
returns g c = nack_raises g.M.Machine.meaning g.M.Machine.IsText c.a_rejected_node_goes_above.ensures
