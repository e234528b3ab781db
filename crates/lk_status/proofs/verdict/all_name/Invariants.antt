use Rattle.std.proofs.Common.{◌≡◌, drop}
use Rattle.lk_status.specs.Verdicts.{all_name}
use Rattle.lk_status.proofs.verdict.all_name.Given as goal

-- those that are left tell it exactly where all do
abbrev pub invariant-loop-report : goal.invariant-loop-report
invariant-loop-report l = all_name l.genesis (drop l.report-index l.reports) ≡ all_name l.genesis l.reports
