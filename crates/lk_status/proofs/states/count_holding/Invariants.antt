use Rattle.std.proofs.Common.{◌≡◌, ◌+◌, ◌≤◌, drop}
use Rattle.lk_status.specs.States.{count_holding}
use Rattle.lk_status.proofs.states.count_holding.Given as goal

-- those that were counted, and those that are left, are all
abbrev pub invariant-all : goal.invariant-all
invariant-all l =
    (l.count + count_holding l.report (drop l.index l.reports) ≡ count_holding l.report l.reports) × (l.count ≤ l.index)
