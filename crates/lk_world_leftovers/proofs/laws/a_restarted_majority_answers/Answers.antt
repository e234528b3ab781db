use Rattle.lk_world_leftovers.proofs.Restarted.{restarted_majority_answers}
use Rattle.lk_world_leftovers.proofs.laws.a_restarted_majority_answers.Goals as goal

pub returns : goal.returns
returns g c = restarted_majority_answers g.M.Machine.meaning g.M.Machine.IsText c.restarts_are_fresh.ensures
    c.restarted_nodes_may_contend.ensures c.exchanges_feed_all.ensures c.level_nodes_contend.ensures
    c.a_persisting_candidate_answers.ensures
