use Rattle.lk_world_leftovers.proofs.Filling.{position_filled}
use Rattle.lk_world_leftovers.proofs.laws.a_position_is_filled.Goals as goal

pub returns : goal.returns
returns g c = position_filled g.M.Machine.meaning g.M.Machine.IsText c.a_leader_accepts_its_own.ensures
    c.a_leader_fills_on.ensures c.a_voter_accepts_and_stays.ensures
