use Rattle.lk_locks.proofs.Tables as law
use Rattle.lk_locks.proofs.laws.a_free_name_is_given_at_the_next_fence.Goals as goal

pub returns : goal.returns
returns c = law.next_of_free
