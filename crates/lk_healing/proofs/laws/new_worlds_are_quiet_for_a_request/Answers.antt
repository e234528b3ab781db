use Rattle.lk_healing.proofs.News.{new_worlds_quiet_for}
use Rattle.lk_healing.proofs.laws.new_worlds_are_quiet_for_a_request.Goals as goal

pub returns : goal.returns
returns g c = new_worlds_quiet_for g.M.Machine.meaning g.M.Machine.IsText c.new_clusters_are_quiet.ensures
    c.new_worlds_contend.ensures
