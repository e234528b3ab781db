use Rattle.lk_guarantees.proofs.Guarded.{guarded}
use Rattle.lk_guarantees.proofs.laws.fences_guard_resources.Goals as goal

pub returns : goal.returns
returns c = guarded
