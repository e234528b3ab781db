use Rattle.lk_world_leftovers.proofs.Exchanging.{leftovers_answer}
use Rattle.lk_world_leftovers.proofs.laws.a_world_with_leftovers_answers.Goals as goal

pub returns : goal.returns
returns g c = leftovers_answer g.M.Machine.meaning g.M.Machine.IsText c.a_candidate_fills_in_a_world.ensures
    c.leftovers_are_filled.ensures c.voters_catch_up.ensures c.a_filled_leader_is_ready.ensures
    c.a_ready_leader_answers.ensures
