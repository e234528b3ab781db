use Rattle.std.proofs.Common.{arith}
use Rattle.lk_probe.proofs.DatagramLaws.{report_is, report_only}
use Rattle.lk_probe.proofs.probe.Report.read.Goals as goal

pub returns-clause-found : goal.returns-clause-found
returns-clause-found c =
    report_is c.args.bytes.now c.report_of.result (λ i. omega (arith, c.type_inv.bytes i)) c.report_of.ensures

pub returns-clause-only : goal.returns-clause-only
returns-clause-only c = report_only c.args.bytes.now c.report_of.result c.report_of.ensures
