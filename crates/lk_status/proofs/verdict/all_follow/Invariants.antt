use Rattle.std.proofs.Common.{◌≡◌, drop}
use Rattle.lk_status.specs.Verdicts.{all_follow}
use Rattle.lk_status.proofs.verdict.all_follow.Given as goal

-- all so far follow
abbrev pub invariant-loop-report : goal.invariant-loop-report
invariant-loop-report l =
    all_follow l.leader (drop l.report-index l.reports) ≡ all_follow l.leader l.reports
