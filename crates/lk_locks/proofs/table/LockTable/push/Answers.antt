use Rattle.std.proofs.Common.{ap, sym, ◌∙◌}
use Rattle.std.specs.FinMap as map
use Rattle.lk_locks.specs.Plain.{Table}
use Rattle.lk_locks.proofs.TableLaws.{push_is}
use Rattle.lk_locks.proofs.table.LockTable.push.Goals as goal

pub returns-clause-ok : goal.returns-clause-ok
returns-clause-ok c = ap (λ (t : Table). map.entries t.names) c.in_ok-set.ensures.ok
    ∙ push_is c.args.self.now.names c.args.name c.args.lock_entry
    (sym (c.is_below.ensures c.args.lock_entry) ∙ c.if-not-is_below.false)
