use Rattle.std.proofs.Common.{◌≡◌, drop}
use Rattle.lk_status.specs.Verdicts.{leads_all}
use Rattle.lk_status.proofs.verdict.leads_all.Given as goal

-- one of those that are left leads all exactly where one of all does
abbrev pub invariant-loop-report : goal.invariant-loop-report
invariant-loop-report l =
    leads_all (drop l.report-index l.leaders) l.reports ≡ leads_all l.leaders l.reports
