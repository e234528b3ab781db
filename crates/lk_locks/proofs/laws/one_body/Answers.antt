use Rattle.lk_locks.proofs.BodyLaws.{one}
use Rattle.lk_locks.proofs.laws.one_body.Goals as goal

pub returns : goal.returns
returns c = one
