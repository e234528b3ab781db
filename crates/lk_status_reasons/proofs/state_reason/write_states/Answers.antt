use Rattle.std.proofs.Common.{◌∙◌, ◌∷◌, ◌++◌, [], List, sym, ap, subst, take}
use Rattle.std.proofs.lemmas.List.{take_more, take_all}
use Rattle.std.specs.Io.KnownBytes.{Appends}
use Rattle.std.specs.Prelude.{flat_map}
use Rattle.lk_probe.specs.declared.probe.Report.{Report}
use Rattle.lk_status_reasons.specs.States.{state_reason}
use Rattle.lk_types.proofs.Appending.{appends_nothing}
use Rattle.lk_status_reasons.proofs.Writing.{writes_more}
use Rattle.lk_status_reasons.proofs.state_reason.write_states.Goals as goal

pub all-init : goal.all-init
all-init g c = appends_nothing _

pub all-preserved : goal.all-preserved
all-preserved g c =
    writes_more (state_reason c.args.reports.now) [] _ _ _ c.args.reports.now c.all.report-index c.report-item.result
    (take_more c.args.reports.now c.all.report-index c.report-item.result c.all-test.true
    ∙ ap (λ (r : Report). take c.all.report-index c.args.reports.now ++ r ∷ []) (sym c.report-item.is))
    c.all.invariant c.in_ok-write_state.ensures

pub returns : goal.returns
returns g c =
    subst (λ (l : List Report). Appends (g.W.Write.contents c.args.out.now) (g.W.Write.contents c.all.out)
    (flat_map (state_reason c.args.reports.now) l))
    (take_all c.all.report-index c.args.reports.now c.all-test.false) c.all.invariant
