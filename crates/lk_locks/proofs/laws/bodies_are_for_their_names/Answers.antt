use Rattle.lk_locks.proofs.Tables as law
use Rattle.lk_locks.proofs.laws.bodies_are_for_their_names.Goals as goal

pub returns : goal.returns
returns c = law.is_for_its_name
