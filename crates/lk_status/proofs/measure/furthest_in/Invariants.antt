use Rattle.std.specs.Prelude.{take}
use Rattle.std.specs.Option.{option_copied}
use Rattle.lk_status.specs.Measures.{those_of, IsFurthestOf}
use Rattle.lk_status.proofs.measure.furthest_in.Given as goal

-- so far of the reports in front
abbrev pub invariant-all : goal.invariant-all
invariant-all l = IsFurthestOf (those_of l.genesis (take l.report-index l.reports)) (option_copied l.furthest)
