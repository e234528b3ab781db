use Rattle.std.proofs.Common.{◌≡◌, ◌+◌, ◌≤◌, drop}
use Rattle.lk_hearing.specs.Probes.{count_heard}
use Rattle.lk_hearing.proofs.hearing.Hearing.count_heard.Given as goal

-- those that were counted, and those that are left, are all
abbrev pub invariant-loop-member : goal.invariant-loop-member
invariant-loop-member l =
    (l.count + count_heard l.own l.now l.self.asked (drop l.member-index l.members)
    ≡ count_heard l.own l.now l.self.asked l.members)
    × (l.count ≤ l.member-index)
