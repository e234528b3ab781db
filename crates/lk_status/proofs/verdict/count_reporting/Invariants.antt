use Rattle.std.proofs.Common.{◌≡◌, ◌+◌, ◌≤◌, drop}
use Rattle.lk_status.specs.Verdicts.{count_reporting}
use Rattle.lk_status.proofs.verdict.count_reporting.Given as goal

-- those that were counted, and those that are left, are all
abbrev pub invariant-loop-member : goal.invariant-loop-member
invariant-loop-member l =
    (l.count + count_reporting (drop l.member-index l.members) l.reports ≡ count_reporting l.members l.reports)
    × (l.count ≤ l.member-index)
