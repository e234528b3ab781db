use Rattle.lk_world_progress.proofs.Overtaking.{fewer_rivals}
use Rattle.lk_world_progress.proofs.laws.a_rejected_candidate_has_fewer_rivals.Goals as goal

pub returns : goal.returns
returns g c = fewer_rivals g.M.Machine.meaning g.M.Machine.IsText c.a_rejected_node_goes_above.ensures
    c.a_due_node_asks_its_window.ensures
