use Rattle.std.proofs.Common.{◌≡◌, drop}
use Rattle.lk_status.specs.Measures.{is_named_by}
use Rattle.lk_status.proofs.measure.is_named_by.Given as goal

-- a report of the node among those that are left tells it exactly where one of all does
abbrev pub invariant-loop-report : goal.invariant-loop-report
invariant-loop-report l =
    is_named_by l.genesis l.node (drop l.report-index l.reports) ≡ is_named_by l.genesis l.node l.reports
