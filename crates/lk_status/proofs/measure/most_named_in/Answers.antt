use Rattle.std.proofs.Common.{◌+◌, ◌∷◌, ◌++◌, [], ◌∙◌, List, Option, sym, ap, subst}
use Rattle.std.proofs.lemmas.List.{take_more, take_all}
use Rattle.std.specs.Option.{option_copied}
use Rattle.std.specs.Prelude.{take}
use Rattle.lk_probe.specs.declared.probe.Report.{Report}
use Rattle.lk_status.specs.Measures.{more_named}
use Rattle.lk_status.proofs.Measuring.{HoldsInOf, one_told, of_all}
use Rattle.lk_status.proofs.measure.most_named_in.Goals as goal

pub all-preserved : goal.all-preserved
all-preserved c =
    let rs = c.args.reports.now in
    let front = take c.all.report-index rs in
    let before = option_copied c.all.best in
    let one = c.report-item.result in
    let more = take_more rs c.all.report-index one c.all-test.true
    ∙ ap (λ (r : Report). front ++ r ∷ []) (sym c.report-item.is) in
    subst (λ (best : Option Report). HoldsInOf rs (take (c.all.report-index + 1) rs) best)
    (sym c.more_named-best.ensures)
    (subst (λ (l : List Report). HoldsInOf rs l (more_named rs before one)) (sym more)
    (one_told rs front before one c.all.invariant))

pub returns : goal.returns
returns c =
    of_all c.args.reports.now _ _ (take_all c.all.report-index c.args.reports.now c.all-test.false) c.all.invariant
