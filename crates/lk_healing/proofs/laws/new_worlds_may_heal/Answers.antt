use Rattle.lk_healing.proofs.Starters.{new_worlds_may_heal}
use Rattle.lk_healing.proofs.laws.new_worlds_may_heal.Goals as goal

pub returns : goal.returns
returns g c = new_worlds_may_heal g.M.Machine.meaning g.M.Machine.IsText c.new_clusters_are_quiet.ensures
