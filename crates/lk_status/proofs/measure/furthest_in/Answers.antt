use Rattle.std.proofs.Common.{◌+◌, ◌∷◌, ◌++◌, [], ◌∙◌, List, Option, sym, ap, subst}
use Rattle.std.proofs.lemmas.List.{take_more}
use Rattle.std.specs.Option.{option_copied}
use Rattle.std.specs.Prelude.{take}
use Rattle.lk_probe.specs.declared.probe.Report.{Report}
use Rattle.lk_status.specs.Measures.{those_of, IsFurthestOf, further}
use Rattle.lk_status.proofs.Measuring.{one_further}
use Rattle.lk_status.proofs.measure.furthest_in.Goals as goal

pub all-preserved : goal.all-preserved
all-preserved c =
    let genesis = c.args.genesis.now in
    let rs = c.args.reports.now in
    let front = take c.all.report-index rs in
    let before = option_copied c.all.furthest in
    let one = c.report-item.result in
    let more = take_more rs c.all.report-index one c.all-test.true
    ∙ ap (λ (r : Report). front ++ r ∷ []) (sym c.report-item.is) in
    subst (λ (best : Option Report). IsFurthestOf (those_of genesis (take (c.all.report-index + 1) rs)) best)
    (sym c.further-furthest.ensures)
    (subst (λ (l : List Report). IsFurthestOf (those_of genesis l) (further genesis before one)) (sym more)
    (one_further genesis front before one c.all.invariant))
