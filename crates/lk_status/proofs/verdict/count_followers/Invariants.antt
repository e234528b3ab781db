use Rattle.std.proofs.Common.{◌≡◌, ◌+◌, ◌≤◌, drop}
use Rattle.lk_status.specs.Verdicts.{count_followers}
use Rattle.lk_status.proofs.verdict.count_followers.Given as goal

-- those that were counted, and those that are left, are all
abbrev pub invariant-loop-member : goal.invariant-loop-member
invariant-loop-member l =
    (l.count + count_followers l.leader (drop l.member-index l.members) l.reports
    ≡ count_followers l.leader l.members l.reports) × (l.count ≤ l.member-index)
