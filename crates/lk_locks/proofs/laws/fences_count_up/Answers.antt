use Rattle.lk_locks.specs.Grants.{calls_of}
use Rattle.lk_locks.proofs.GrantLaws.{grants_count_up}
use Rattle.lk_locks.proofs.laws.fences_count_up.Goals as goal

pub returns : goal.returns
returns c = λ name L. grants_count_up name (calls_of L)
