use Rattle.lk_world_leftovers.proofs.Parting.{parts_taken}
use Rattle.lk_world_leftovers.proofs.laws.parts_are_taken.Goals as goal

pub returns : goal.returns
returns g c = parts_taken g.M.Machine.meaning g.M.Machine.IsText c.an_exchange_sends_parts.ensures
