use Rattle.std.proofs.Common.{[], List, subst}
use Rattle.std.proofs.lemmas.List.{take_more, take_all}
use Rattle.std.specs.Io.KnownBytes.{Appends}
use Rattle.std.specs.Prelude.{flat_map}
use Rattle.lk_status_command.specs.Metrics.{field_text}
use Rattle.lk_status_command.specs.declared.field.Field.{Field}
use Rattle.lk_types.proofs.Appending.{appends_nothing}
use Rattle.lk_status_reasons.proofs.Writing.{writes_more}
use Rattle.lk_status_command.proofs.prometheus.write_fields.Goals as goal

pub all-init : goal.all-init
all-init g c = appends_nothing _

pub all-preserved : goal.all-preserved
all-preserved g c =
    writes_more (field_text c.args.first c.args.inquiry.now c.args.reports.now) [] _ _ _ c.args.fields.now
    c.all.field-index _ (take_more c.args.fields.now c.all.field-index _ c.all-test.true) c.all.invariant
    c.in_ok-write_field.ensures

pub returns : goal.returns
returns g c =
    subst (λ (l : List Field). Appends (g.W.Write.contents c.args.out.now) (g.W.Write.contents c.all.out)
    (flat_map (field_text c.args.first c.args.inquiry.now c.args.reports.now) l))
    (take_all c.all.field-index c.args.fields.now c.all-test.false) c.all.invariant
