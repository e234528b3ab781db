use Rattle.lk_guarantees.proofs.Joining.{joins_once}
use Rattle.lk_guarantees.proofs.laws.numbers_join_once.Goals as goal

pub returns : goal.returns
returns c = joins_once
