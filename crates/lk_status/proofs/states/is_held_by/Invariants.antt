use Rattle.std.proofs.Common.{◌≡◌, drop}
use Rattle.lk_status.specs.States.{is_held_by}
use Rattle.lk_status.proofs.states.is_held_by.Given as goal

-- it is among those that are left exactly where it is among all
abbrev pub invariant-loop-other : goal.invariant-loop-other
invariant-loop-other l =
    is_held_by l.report l.node (drop l.other-index l.reports) ≡ is_held_by l.report l.node l.reports
