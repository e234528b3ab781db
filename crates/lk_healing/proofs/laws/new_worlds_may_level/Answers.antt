use Rattle.lk_healing.proofs.Starters.{new_worlds_may_level}
use Rattle.lk_healing.proofs.laws.new_worlds_may_level.Goals as goal

pub returns : goal.returns
returns g c = new_worlds_may_level g.M.Machine.meaning g.M.Machine.IsText c.new_clusters_are_quiet.ensures
