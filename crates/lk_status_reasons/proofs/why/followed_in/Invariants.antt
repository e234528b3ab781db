use Rattle.std.proofs.Common.{◌≡◌, drop}
use Rattle.lk_status_reasons.specs.Reasons.{followed}
use Rattle.lk_status_reasons.proofs.why.followed_in.Given as goal

-- the first of those that are left is the first of all
abbrev pub invariant-loop-report : goal.invariant-loop-report
invariant-loop-report l = followed (drop l.report-index l.reports) ≡ followed l.reports
