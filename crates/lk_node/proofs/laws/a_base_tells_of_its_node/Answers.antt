use Rattle.lk_node.proofs.ReachLaws.{base_near, base_tells}
use Rattle.lk_node.proofs.laws.a_base_tells_of_its_node.Goals as goal

pub returns-clause-near : goal.returns-clause-near
returns-clause-near c = base_near

pub returns-clause-tells : goal.returns-clause-tells
returns-clause-tells c = base_tells
