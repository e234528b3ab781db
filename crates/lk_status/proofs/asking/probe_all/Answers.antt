use Rattle.std.proofs.Common.{rules}
use Rattle.lk_status.proofs.Gathered.{round_of}
use Rattle.lk_status.proofs.asking.probe_all.Goals as goal

pub returns-clause-round : goal.returns-clause-round
returns-clause-round g c = λ observable.
    round_of g.S.DatagramSocket.sent g.S.DatagramSocket.incoming g.S.DatagramSocket.failures
    c.args.inquiry.now c.args.first
    (c.in_ok-send_probes.ensures observable) (c.in_ok-collect_reports.ensures.hears observable) (search rules)
    (search rules) (search rules)
