use Rattle.lk_locks.proofs.Tables as law
use Rattle.lk_locks.proofs.laws.breaks_free_all.Goals as goal

pub returns : goal.returns
returns c = law.breaks_free_all
