use Rattle.lk_world_leftovers.proofs.Filling.{leader_offers}
use Rattle.lk_world_leftovers.proofs.laws.a_filling_leader_offers.Goals as goal

pub returns : goal.returns
returns g c = leader_offers g.M.Machine.meaning g.M.Machine.IsText c.a_leader_fills_on.ensures
