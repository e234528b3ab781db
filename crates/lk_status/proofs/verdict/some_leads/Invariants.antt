use Rattle.std.proofs.Common.{◌≡◌, drop}
use Rattle.lk_status.specs.Verdicts.{some_leads}
use Rattle.lk_status.proofs.verdict.some_leads.Given as goal

-- one of those that are left leads exactly where one of all does
abbrev pub invariant-loop-report : goal.invariant-loop-report
invariant-loop-report l = some_leads (drop l.report-index l.leaders) l.reports ≡ some_leads l.leaders l.reports
