use Rattle.std.proofs.Common.{◌≡◌, drop}
use Rattle.lk_status_reasons.specs.Reasons.{some_send}
use Rattle.lk_status_reasons.proofs.why.some_send.Given as goal

-- one of those that are left sends exactly where one of all does
abbrev pub invariant-loop-report : goal.invariant-loop-report
invariant-loop-report l = some_send (drop l.report-index l.reports) ≡ some_send l.reports
