use Rattle.std.proofs.Common.{◌≡◌, drop}
use Rattle.lk_status_command.specs.Withheld.{report_by}
use Rattle.lk_status_command.proofs.withheld.report_by.Given as goal

-- none so far is one
abbrev pub invariant-loop-report : goal.invariant-loop-report
invariant-loop-report l =
    report_by l.genesis l.node (drop l.report-index l.reports) ≡ report_by l.genesis l.node l.reports
