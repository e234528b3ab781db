use Rattle.lk_world_leftovers.proofs.Leveling.{exchanges_feed_all}
use Rattle.lk_world_leftovers.proofs.laws.exchanges_feed_all.Goals as goal

pub returns : goal.returns
returns g c = exchanges_feed_all g.M.Machine.meaning g.M.Machine.IsText c.a_lagging_voter_is_fed.ensures
    c.a_lagging_candidate_is_fed.ensures c.parts_are_taken.ensures
