use Rattle.lk_node.proofs.ReachLaws.{near_begins}
use Rattle.lk_node.proofs.laws.what_a_stop_leaves_lies_near.Goals as goal

pub returns : goal.returns
returns c = near_begins
