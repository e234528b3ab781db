use Rattle.std.proofs.Common.{arith}
use Rattle.lk_probe.proofs.DatagramLaws.{probe_letters, report_letters, message_letter}
use Rattle.lk_probe.proofs.laws.kinds_are_disjoint.Goals as goal

pub returns-clause-probe : goal.returns-clause-probe
returns-clause-probe c = λ m p bytes s t. omega (arith, message_letter m bytes s, (probe_letters p bytes t).0)

pub returns-clause-report : goal.returns-clause-report
returns-clause-report c = λ m r bytes s t. omega (arith, message_letter m bytes s, (report_letters r bytes t).0)

pub returns-clause-both : goal.returns-clause-both
returns-clause-both c = λ p r bytes s t. omega (arith, (probe_letters p bytes s).1, (report_letters r bytes t).1)
