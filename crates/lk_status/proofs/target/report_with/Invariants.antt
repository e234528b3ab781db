use Rattle.std.proofs.Common.{◌≡◌, drop}
use Rattle.lk_status.specs.Rounds.{has_token, report_of}
use Rattle.lk_status.proofs.target.report_with.Given as goal

-- those that are left have it exactly where all have, and the first of those that have it is the first of all
abbrev pub invariant-loop-report : goal.invariant-loop-report
invariant-loop-report l =
    (has_token l.token (drop l.report-index l.reports) ≡ has_token l.token l.reports)
    × (report_of l.token (drop l.report-index l.reports) ≡ report_of l.token l.reports)
