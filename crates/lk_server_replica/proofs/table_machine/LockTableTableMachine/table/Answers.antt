use Rattle.std.proofs.Common.{sym}
use Rattle.lk_locks.specs.PackedLaws.{again}
use Rattle.lk_server_replica.proofs.table_machine.LockTableTableMachine.table.Goals as goal

pub returns : goal.returns
returns c = sym (again c.args.self.now c.facts.ensures)
