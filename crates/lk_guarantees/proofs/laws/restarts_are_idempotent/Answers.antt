use Rattle.lk_guarantees.proofs.Restarting.{idempotent}
use Rattle.lk_guarantees.proofs.laws.restarts_are_idempotent.Goals as goal

pub returns : goal.returns
returns c = idempotent
