use Rattle.lk_locks.proofs.Tables as law
use Rattle.lk_locks.proofs.laws.checks_tell_who_holds.Goals as goal

pub returns : goal.returns
returns c = law.checks_tell_who_holds
