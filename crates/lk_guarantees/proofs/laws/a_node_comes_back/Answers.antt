use Rattle.lk_guarantees.proofs.ComingBack.{comes_back}
use Rattle.lk_guarantees.proofs.laws.a_node_comes_back.Goals as goal

pub returns : goal.returns
returns c = comes_back
