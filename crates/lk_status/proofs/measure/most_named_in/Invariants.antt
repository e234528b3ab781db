use Rattle.std.specs.Prelude.{take}
use Rattle.std.specs.Option.{option_copied}
use Rattle.lk_status.proofs.Measuring.{HoldsInOf}
use Rattle.lk_status.proofs.measure.most_named_in.Given as goal

-- so far of the reports in front
abbrev pub invariant-all : goal.invariant-all
invariant-all l = HoldsInOf l.reports (take l.report-index l.reports) (option_copied l.best)
