use Rattle.std.proofs.Common.{◌≡◌, drop}
use Rattle.lk_status.specs.Verdicts.{has_follower}
use Rattle.lk_status.proofs.verdict.has_follower.Given as goal

-- no report so far is of a follower of that number
abbrev pub invariant-loop-report : goal.invariant-loop-report
invariant-loop-report l =
    has_follower l.leader l.node (drop l.report-index l.reports) ≡ has_follower l.leader l.node l.reports
