use Rattle.lk_world_leftovers.proofs.Asking.{lagging_candidate_fed}
use Rattle.lk_world_leftovers.proofs.laws.a_lagging_candidate_is_fed.Goals as goal

pub returns : goal.returns
returns g c = lagging_candidate_fed g.M.Machine.meaning g.M.Machine.IsText c.an_exchange_feeds_a_node.ensures
    c.a_fed_candidate_contends.ensures
