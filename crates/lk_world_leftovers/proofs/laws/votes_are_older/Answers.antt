use Rattle.lk_world_leftovers.proofs.Fixed.{votes_older}
use Rattle.lk_world_leftovers.proofs.laws.votes_are_older.Goals as goal

pub returns : goal.returns
returns g c = votes_older g.M.Machine.meaning g.M.Machine.IsText
