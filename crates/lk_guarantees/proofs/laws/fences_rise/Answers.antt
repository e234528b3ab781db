use Rattle.lk_guarantees.proofs.Guarded.{fences_rise}
use Rattle.lk_guarantees.proofs.laws.fences_rise.Goals as goal

pub returns : goal.returns
returns c = fences_rise
