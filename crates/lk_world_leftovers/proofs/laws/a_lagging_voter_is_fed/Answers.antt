use Rattle.lk_world_leftovers.proofs.Lagging.{lagging_voter_fed}
use Rattle.lk_world_leftovers.proofs.laws.a_lagging_voter_is_fed.Goals as goal

pub returns : goal.returns
returns g c =
    lagging_voter_fed g.M.Machine.meaning g.M.Machine.IsText c.a_rejection_feeds_its_sender.ensures
