use Rattle.lk_leftovers.proofs.Accepting.{leader_accepts}
use Rattle.lk_leftovers.proofs.laws.a_leader_accepts_its_own.Goals as goal

pub returns : goal.returns
returns g c = leader_accepts g.M.Machine.meaning g.M.Machine.IsText c.a_near_node_accepts.ensures
