use Rattle.std.proofs.Common.{◌≡◌, None, drop}
use Rattle.lk_status_command.specs.Lines.{most_names}
use Rattle.lk_status_command.proofs.lines.most_names.Given as goal

-- with those that are left, the greatest so far gives the greatest of all
abbrev pub invariant-loop-report : goal.invariant-loop-report
invariant-loop-report l = most_names l.most (drop l.report-index l.reports) ≡ most_names None l.reports
