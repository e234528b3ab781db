use Rattle.lk_guarantees.proofs.Once.{once}
use Rattle.lk_guarantees.proofs.laws.numbers_take_effect_once.Goals as goal

pub returns : goal.returns
returns c = once
