use Rattle.std.proofs.Common.{◌≡◌, drop}
use Rattle.lk_status.specs.Verdicts.{all_have}
use Rattle.lk_status.proofs.verdict.all_have.Given as goal

-- those that are left have executed so many exactly where all have
abbrev pub invariant-loop-report : goal.invariant-loop-report
invariant-loop-report l = all_have l.executed (drop l.report-index l.reports) ≡ all_have l.executed l.reports
