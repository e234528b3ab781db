use Rattle.std.proofs.Common.{List, sym, subst}
use Rattle.std.specs.FinMap as map
use Rattle.lk_locks.specs.Packed.{Entry, AreNames}
use Rattle.lk_locks.specs.PackedLaws.{empty_are_names}
use Rattle.lk_locks.proofs.table.LockTable.new.Goals as goal

pub invariant_of-result : goal.invariant_of-result
invariant_of-result c = (
  c.new.ensures.ordered,
  subst (λ (es : List Entry). AreNames c.args.raised (map.from_entries es)) (sym c.new.ensures.empty)
      (empty_are_names c.args.raised),
)
