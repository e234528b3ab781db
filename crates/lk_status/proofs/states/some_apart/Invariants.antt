use Rattle.std.proofs.Common.{◌≡◌, drop}
use Rattle.lk_status.specs.States.{some_apart}
use Rattle.lk_status.proofs.states.some_apart.Given as goal

-- one of those that are left is apart exactly where one of all is
abbrev pub invariant-loop-report : goal.invariant-loop-report
invariant-loop-report l = some_apart (drop l.report-index l.some) l.reports ≡ some_apart l.some l.reports
