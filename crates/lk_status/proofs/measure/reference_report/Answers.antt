use Rattle.std.specs.Option.{option_copied}
use Rattle.lk_status.proofs.Measuring.{by_furthest}
use Rattle.lk_status.proofs.measure.reference_report.Goals as goal

pub returns : goal.returns
returns c =
    by_furthest c.args.reports.now c.in-Some.named.now
    (option_copied c.furthest_in.result) c.in-Some.ensures c.if-named.false c.furthest_in.ensures
