use Rattle.lk_learner.proofs.PartLaws.{heard_front}
use Rattle.lk_learner.proofs.laws.what_is_gathered_is_a_prefix.Goals as goal

pub returns : goal.returns
returns c = λ genesis sent text e p old g sound part fits is. heard_front genesis sent text sound p part e old fits g is
