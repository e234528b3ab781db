use Rattle.std.specs.Io.KnownBytes.{Appends}
use Rattle.lk_status_command.specs.Metrics.{fields_text}
use Rattle.lk_types.proofs.Appending.{appends_more}
use Rattle.lk_status_command.proofs.prometheus.write_metrics.Goals as goal

pub returns : goal.returns
returns g c =
    let fields : Appends (g.W.Write.contents c.write_differs.new.out) (g.W.Write.contents c.write_fields.new.out)
    (fields_text c.args.first c.args.inquiry.now c.args.reports.now) = c.in_ok-write_fields.ensures in
    appends_more _ _ _ _ _ c.in_ok-write_verdict.ensures
    (appends_more _ _ _ _ _ c.in_ok-write_up.ensures
    (appends_more _ _ _ _ _ c.in_ok-write_differs.ensures fields))
