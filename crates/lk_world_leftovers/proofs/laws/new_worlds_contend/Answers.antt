use Rattle.lk_world_leftovers.proofs.Lasting.{new_worlds_contend}
use Rattle.lk_world_leftovers.proofs.laws.new_worlds_contend.Goals as goal

pub returns : goal.returns
returns g c = new_worlds_contend g.M.Machine.meaning g.M.Machine.IsText c.new_clusters_are_quiet.ensures
