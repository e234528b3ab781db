use Rattle.lk_locks.proofs.Tables as law
use Rattle.lk_locks.proofs.laws.each_fence_is_listed.Goals as goal

pub returns : goal.returns
returns c = law.each_fence_is_listed
