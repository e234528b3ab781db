use Rattle.lk_guarantees.proofs.Repeating.{comes_back_the_same}
use Rattle.lk_guarantees.proofs.laws.a_node_comes_back_the_same.Goals as goal

pub returns : goal.returns
returns c = comes_back_the_same
