use Rattle.std.proofs.Common.{rules}
use Rattle.lk_script.specs.TableMode.Prints.{others, unreadable}
use Rattle.lk_script.proofs.PrintLaws.{on_ok}
use Rattle.lk_script.proofs.table_run.TableRun.print.Goals as goal

pub returns-in-Err-clause-ok : goal.returns-in-Err-clause-ok
returns-in-Err-clause-ok c =
    on_ok c.print-in-Err.result _ _ c.print-in-Err.ensures.ok
    (λ text L sums. (L, rw text (unreadable (rw c.deref.ensures.value at c.in-Err.ensures.bad)), sums))

pub returns-in-Ok-None-clause-ok : goal.returns-in-Ok-None-clause-ok
returns-in-Ok-None-clause-ok c = on_ok c.print.result _ _ c.print.ensures.ok
    (λ text L sums.
    let other = rw c.deref.ensures.value at c.in-Ok-None.ensures.other (search rules) in
    (L, rw text (others other.0 other.1 other.2), sums))
