use Rattle.lk_leftovers.proofs.Accepting.{voter_accepts}
use Rattle.lk_leftovers.proofs.laws.a_voter_accepts_and_stays.Goals as goal

pub returns : goal.returns
returns g c = voter_accepts g.M.Machine.meaning g.M.Machine.IsText c.a_near_node_accepts.ensures
