use Rattle.lk_world_leftovers.proofs.Leveling.{new_worlds_are_level}
use Rattle.lk_world_leftovers.proofs.laws.new_worlds_are_level.Goals as goal

pub returns : goal.returns
returns g c = new_worlds_are_level g.M.Machine.meaning g.M.Machine.IsText c.new_worlds_contend.ensures
