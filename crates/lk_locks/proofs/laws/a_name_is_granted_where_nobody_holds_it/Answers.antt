use Rattle.lk_locks.proofs.Tables as law
use Rattle.lk_locks.proofs.laws.a_name_is_granted_where_nobody_holds_it.Goals as goal

pub returns : goal.returns
returns c = law.granted_where_free
