use Rattle.lk_world_leftovers.proofs.Fixed.{nodes_know}
use Rattle.lk_world_leftovers.proofs.laws.nodes_know_their_members.Goals as goal

pub returns : goal.returns
returns g c = nodes_know g.M.Machine.meaning g.M.Machine.IsText
