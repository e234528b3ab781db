use Rattle.lk_probe.proofs.DatagramLaws.{probe_length_is, report_length_is, long_probe_length_is, long_report_length_is}
use Rattle.lk_probe.proofs.laws.lengths.Goals as goal

pub returns-clause-probe : goal.returns-clause-probe
returns-clause-probe c = probe_length_is

pub returns-clause-report : goal.returns-clause-report
returns-clause-report c = report_length_is

pub returns-clause-long_probe : goal.returns-clause-long_probe
returns-clause-long_probe c = long_probe_length_is

pub returns-clause-long_report : goal.returns-clause-long_report
returns-clause-long_report c = long_report_length_is
