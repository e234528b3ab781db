use Rattle.std.specs.Option.{option_copied}
use Rattle.lk_status.proofs.Measuring.{furthest_named}
use Rattle.lk_status.proofs.measure.furthest_report.Goals as goal

pub returns : goal.returns
returns c =
    furthest_named c.args.reports.now c.in-Some.named.now
    (option_copied c.furthest_in.result) c.in-Some.ensures c.furthest_in.ensures
