use Rattle.lk_world_leftovers.proofs.Collecting.{candidate_fills}
use Rattle.lk_world_leftovers.proofs.laws.a_candidate_fills_in_a_world.Goals as goal

pub returns : goal.returns
returns g c = candidate_fills g.M.Machine.meaning g.M.Machine.IsText c.a_due_node_asks_its_window.ensures
    c.a_prepare_is_promised_or_rejected_for_a_cause.ensures c.a_promised_candidate_fills.ensures
