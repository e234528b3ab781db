use Rattle.lk_healing.proofs.Starters.{new_worlds_may_contend}
use Rattle.lk_healing.proofs.laws.new_worlds_may_contend_for_a_request.Goals as goal

pub returns : goal.returns
returns g c = new_worlds_may_contend g.M.Machine.meaning g.M.Machine.IsText c.new_clusters_are_quiet.ensures
    c.new_worlds_contend.ensures
