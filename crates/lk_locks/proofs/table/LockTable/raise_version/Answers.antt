use Rattle.std.proofs.Common.{rules}
use Rattle.std.specs.FinMap as map
use Rattle.lk_locks.specs.PackedLaws.{raised_are_names}
use Rattle.lk_locks.proofs.table.LockTable.raise_version.Goals as goal

pub invariant_of-self : goal.invariant_of-self
invariant_of-self c = (
  c.self.invariant.0,
  raised_are_names c.self.inside.raised (map.from_entries c.self.inside.lock_entries.entries) c.self.invariant.1,
)

pub returns-then-self-clause-answer : goal.returns-then-self-clause-answer
returns-then-self-clause-answer c = search rules
