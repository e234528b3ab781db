use Rattle.std.proofs.Common.{◌≡◌, ◌+◌, ◌≤◌, drop}
use Rattle.lk_status.specs.Changes.{count_executed}
use Rattle.lk_status.proofs.change.count_executed.Given as goal

-- those that were counted, and those that are left, are all
abbrev pub invariant-loop-member : goal.invariant-loop-member
invariant-loop-member l =
    (l.count + count_executed l.genesis l.goal (drop l.member-index l.members) l.reports
    ≡ count_executed l.genesis l.goal l.members l.reports) × (l.count ≤ l.member-index)
