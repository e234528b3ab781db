use Rattle.std.proofs.Common.{◌≡◌, ◌∙◌, ◌∷◌, ◌++◌, [], false, sym, ap, take}
use Rattle.std.proofs.lemmas.List.{take_more, take_all}
use Rattle.std.specs.Prelude.{codes}
use Rattle.lk_probe.specs.declared.probe.Report.{Report}
use Rattle.lk_status.specs.Verdicts.{one_genesis}
use Rattle.lk_status_command.specs.Lines.{stranger_word}
use Rattle.lk_status_reasons.proofs.Writing.{writes_more}
use Rattle.lk_status_command.proofs.Writing.{strangers_as}
use Rattle.lk_status_command.proofs.lines.write_strangers.Goals as goal

pub all-preserved : goal.all-preserved
all-preserved g c =
    writes_more (stranger_word c.args.measure.now)
    (codes "; genesis differs:") _ _ _ c.args.reports.now c.all.report-index c.report-item.result
    (take_more c.args.reports.now c.all.report-index c.report-item.result c.all-test.true
    ∙ ap (λ (r : Report). take c.all.report-index c.args.reports.now ++ r ∷ []) (sym c.report-item.is))
    c.all.invariant c.in_ok-write_stranger.ensures

pub returns : goal.returns
returns g c =
    let several : one_genesis c.args.reports.now ≡ false = sym c.has_one_genesis.ensures ∙ c.if-has_one_genesis.false in
    let all : take c.all.report-index c.args.reports.now ≡ c.args.reports.now =
    take_all c.all.report-index c.args.reports.now c.all-test.false in
    strangers_as _ _ c.args.measure.now c.args.reports.now _ several all c.all.invariant
