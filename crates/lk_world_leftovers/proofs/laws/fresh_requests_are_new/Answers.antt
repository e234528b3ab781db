use Rattle.lk_world_leftovers.proofs.Fixed.{fresh_new}
use Rattle.lk_world_leftovers.proofs.laws.fresh_requests_are_new.Goals as goal

pub returns : goal.returns
returns g c = fresh_new g.M.Machine.meaning g.M.Machine.IsText
