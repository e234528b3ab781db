use Rattle.lk_transport.specs.Chains.{Repeats}
use Rattle.lk_status.specs.Rounds.{AreOfRound, HearsNext}
use Rattle.lk_status.proofs.asking.collect_reports.Given as goal

-- what was heard so far, one receive after another, are reports of the round
abbrev pub invariant-receives : goal.invariant-receives
invariant-receives g l =
    let sent = g.S.DatagramSocket.sent in
    let incoming = g.S.DatagramSocket.incoming in
    let failures = g.S.DatagramSocket.failures in
    (AreOfRound l.inquiry l.fn.first l.initial.reports.items → AreOfRound l.inquiry l.fn.first l.reports.items)
    × (g.S.DatagramSocket.is_observable → Repeats (HearsNext sent incoming failures l.inquiry l.fn.first) l.counter
    (record { socket = l.initial.socket; reports = l.initial.reports.items; silences = l.initial.silences })
    (record { socket = l.socket; reports = l.reports.items; silences = l.silences }))
