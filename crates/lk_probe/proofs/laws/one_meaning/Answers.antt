use Rattle.lk_probe.proofs.DatagramLaws.{one_probe, one_report}
use Rattle.lk_probe.proofs.laws.one_meaning.Goals as goal

pub returns-clause-probe : goal.returns-clause-probe
returns-clause-probe c = one_probe

pub returns-clause-report : goal.returns-clause-report
returns-clause-report c = one_report
