use Rattle.std.proofs.Common.{rules}
use Rattle.lk_script.proofs.table_run.TableRun.print_line.Goals as goal

pub returns-clause-ok : goal.returns-clause-ok
returns-clause-ok c = λ L sums.
    let printed = c.in_ok-print.ensures.ok L sums in (
      c.read_bytes.new.bytes.items,
      c.print.new.buffers.text.items,
      printed.0,
      c.in_ok-read_bytes.ensures.ok,
      printed.1,
      search rules,
      printed.2,
    )
