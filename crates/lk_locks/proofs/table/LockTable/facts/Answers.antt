use Rattle.std.proofs.Common.{subst}
use Rattle.lk_locks.specs.Packed.{IsTable}
use Rattle.lk_locks.proofs.table.LockTable.facts.Goals as goal

pub returns : goal.returns
returns c = subst IsTable c.self.view_is c.self.invariant.1
