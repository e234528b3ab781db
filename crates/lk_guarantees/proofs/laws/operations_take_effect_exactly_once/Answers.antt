use Rattle.lk_guarantees.proofs.ExactlyOnce.{served_once}
use Rattle.lk_guarantees.proofs.laws.operations_take_effect_exactly_once.Goals as goal

pub returns : goal.returns
returns c world p = served_once world.genesis world.sent world.trace p.explained p.told_in_time
