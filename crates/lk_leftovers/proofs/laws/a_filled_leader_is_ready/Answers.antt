use Rattle.lk_leftovers.proofs.Filling.{filled_ready}
use Rattle.lk_leftovers.proofs.laws.a_filled_leader_is_ready.Goals as goal

pub returns : goal.returns
returns c = filled_ready
