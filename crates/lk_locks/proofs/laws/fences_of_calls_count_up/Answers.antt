use Rattle.lk_locks.proofs.GrantLaws.{grants_count_up}
use Rattle.lk_locks.proofs.laws.fences_of_calls_count_up.Goals as goal

pub returns : goal.returns
returns c = grants_count_up
