use Rattle.lk_guarantees.proofs.Reaching.{stay_reachable}
use Rattle.lk_guarantees.proofs.laws.worlds_stay_reachable.Goals as goal

pub returns : goal.returns
returns c = stay_reachable
