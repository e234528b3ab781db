use Rattle.lk_world_progress.proofs.Beginning.{new_worlds_quiet}
use Rattle.lk_world_progress.proofs.laws.new_worlds_are_quiet.Goals as goal

pub returns : goal.returns
returns g c = new_worlds_quiet g.M.Machine.meaning g.M.Machine.IsText c.new_clusters_are_quiet.ensures
