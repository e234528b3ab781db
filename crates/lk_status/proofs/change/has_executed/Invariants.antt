use Rattle.std.proofs.Common.{◌≡◌, drop}
use Rattle.lk_status.specs.Changes.{has_executed}
use Rattle.lk_status.proofs.change.has_executed.Given as goal

-- none of the reports so far says so
abbrev pub invariant-loop-report : goal.invariant-loop-report
invariant-loop-report l =
    has_executed l.genesis l.goal l.node (drop l.report-index l.reports)
    ≡ has_executed l.genesis l.goal l.node l.reports
