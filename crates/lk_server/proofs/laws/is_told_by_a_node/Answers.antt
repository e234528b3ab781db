use Rattle.lk_server.proofs.Free.{told_by_a_node as law}
use Rattle.lk_server.proofs.laws.is_told_by_a_node.Goals as goal

pub returns : goal.returns
returns c = law
