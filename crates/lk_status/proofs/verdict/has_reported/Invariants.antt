use Rattle.std.proofs.Common.{◌≡◌, drop}
use Rattle.lk_status.specs.Verdicts.{has_reported}
use Rattle.lk_status.proofs.verdict.has_reported.Given as goal

-- it is among those that are left exactly where it is among all
abbrev pub invariant-loop-report : goal.invariant-loop-report
invariant-loop-report l = has_reported l.node (drop l.report-index l.reports) ≡ has_reported l.node l.reports
