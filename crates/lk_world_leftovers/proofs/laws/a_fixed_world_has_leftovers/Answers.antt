use Rattle.lk_world_leftovers.proofs.Fixed.{fixed_has_leftovers}
use Rattle.lk_world_leftovers.proofs.laws.a_fixed_world_has_leftovers.Goals as goal

pub returns : goal.returns
returns g c = fixed_has_leftovers g.M.Machine.meaning g.M.Machine.IsText
