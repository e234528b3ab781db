use Rattle.lk_locks.specs.PackedLaws.{again}
use Rattle.lk_locks.proofs.laws.one_table.Goals as goal

pub returns : goal.returns
returns c = again
