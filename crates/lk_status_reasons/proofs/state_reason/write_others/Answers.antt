use Rattle.std.proofs.Common.{◌∙◌, ◌∷◌, ◌++◌, [], List, sym, ap, subst, take}
use Rattle.std.proofs.lemmas.List.{take_more, take_all}
use Rattle.std.specs.Io.KnownBytes.{Appends}
use Rattle.std.specs.Prelude.{flat_map}
use Rattle.lk_probe.specs.declared.probe.Report.{Report}
use Rattle.lk_status_reasons.specs.States.{other_word}
use Rattle.lk_types.proofs.Appending.{appends_nothing}
use Rattle.lk_status_reasons.proofs.Writing.{writes_more}
use Rattle.lk_status_reasons.proofs.state_reason.write_others.Goals as goal

pub all-init : goal.all-init
all-init g c = appends_nothing _

pub all-preserved : goal.all-preserved
all-preserved g c =
    writes_more (other_word c.args.report.now) [] _ _ _ c.args.reports.now c.all.other-index c.other-item.result
    (take_more c.args.reports.now c.all.other-index c.other-item.result c.all-test.true
    ∙ ap (λ (r : Report). take c.all.other-index c.args.reports.now ++ r ∷ []) (sym c.other-item.is))
    c.all.invariant c.in_ok-write_other.ensures

pub returns : goal.returns
returns g c =
    subst (λ (l : List Report). Appends (g.W.Write.contents c.args.out.now) (g.W.Write.contents c.all.out)
    (flat_map (other_word c.args.report.now) l))
    (take_all c.all.other-index c.args.reports.now c.all-test.false) c.all.invariant
