use Rattle.lk_world_leftovers.proofs.Exchanging.{in_turn}
use Rattle.lk_world_leftovers.proofs.laws.leftovers_are_filled.Goals as goal

pub returns : goal.returns
returns g c = in_turn g.M.Machine.meaning g.M.Machine.IsText c.a_position_is_filled.ensures
