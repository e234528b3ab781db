use Rattle.std.proofs.Common.{arith}
use Rattle.lk_probe.proofs.DatagramLaws.{probe_is, probe_only}
use Rattle.lk_probe.proofs.probe.Probe.read.Goals as goal

pub returns-clause-found : goal.returns-clause-found
returns-clause-found c =
    probe_is c.args.bytes.now c.probe_of.result (λ i. omega (arith, c.type_inv.bytes i)) c.probe_of.ensures

pub returns-clause-only : goal.returns-clause-only
returns-clause-only c = probe_only c.args.bytes.now c.probe_of.result c.probe_of.ensures
