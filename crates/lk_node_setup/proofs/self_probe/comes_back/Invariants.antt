-- None of the receives so far brought it, and nothing is sent.
use Rattle.std.specs.Prelude.{◌≡◌}
use Rattle.lk_node_setup.specs.SelfProbes.{StaysAway}
use Rattle.lk_node_setup.proofs.self_probe.comes_back.Given as goal

abbrev pub invariant-receives : goal.invariant-receives
invariant-receives g l =
    let socket = g.S.DatagramSocket in
    (socket.is_observable → StaysAway l.frame l.counter (socket.incoming l.fn.socket) (socket.incoming l.socket))
    × (socket.sent l.socket ≡ socket.sent l.fn.socket)
    × (socket.failures l.socket ≡ socket.failures l.fn.socket)
