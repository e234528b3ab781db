use Rattle.std.specs.Option.{option_copied}
use Rattle.lk_status_command.proofs.Writing.{appends_kept}
use Rattle.lk_status_command.proofs.status.print.Goals as goal

pub returns-clause-printed : goal.returns-clause-printed
returns-clause-printed g c = (
  option_copied c.reference_report.result,
  c.reference_report.ensures,
  appends_kept _ _ _ _ c.in_ok-write_form.ensures c.in_ok-flush.ensures.bytes,
)
