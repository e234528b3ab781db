use Rattle.lk_world_leftovers.proofs.Retrying.{rejections_few}
use Rattle.lk_world_leftovers.proofs.laws.rejections_are_few.Goals as goal

pub returns : goal.returns
returns g c = rejections_few g.M.Machine.meaning g.M.Machine.IsText c.a_due_node_asks_its_window.ensures
    c.a_delivered_rejection_raises.ensures c.a_rejected_candidate_has_fewer_rivals.ensures
