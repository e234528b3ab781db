use Rattle.std.specs.Prelude.{drop}
use Rattle.lk_status.specs.Rounds.{ProbesEach}
use Rattle.lk_status.proofs.asking.send_probes.Given as goal

-- where those that are left are asked from here on, all are
abbrev pub invariant-targets : goal.invariant-targets
invariant-targets g l =
    let asks = ProbesEach g.S.DatagramSocket.sent g.S.DatagramSocket.incoming g.S.DatagramSocket.failures l.inquiry
    l.asks_reach in
    g.S.DatagramSocket.is_observable → (last : g.row.S.Denot)
    → asks l.token (drop l.target-index l.targets) l.reports l.socket last
    → asks l.fn.first l.targets l.reports l.initial.socket last
