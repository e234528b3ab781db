use Rattle.lk_guarantees.proofs.Converging.{converges}
use Rattle.lk_guarantees.proofs.laws.nodes_converge.Goals as goal

pub returns : goal.returns
returns c = converges
