-- So many turns were taken, no probe, report or watch is kept between two of them, after each the node warned where
-- that was due, and nodes live where they did, or where the file of the hosts says.
use Rattle.std.proofs.Common.{◌≡◌, None}
use Rattle.lk_transport.specs.Chains.{Repeats}
use Rattle.lk_node_setup.specs.HostWatches.{host_path}
use Rattle.lk_node_process.specs.Turns.{AreHostsKept, DoesTurn}
use Rattle.lk_node_process.specs.Warnings.{DoesTurnAndWarns, reminded}
use Rattle.lk_node_process.proofs.Turning.{SaysOn}
use Rattle.lk_node_process.proofs.running.do_turns.Given as goal

abbrev pub invariant-turns : goal.invariant-turns
invariant-turns g l =
    let device = g.D.LogDisk in
    (l.buffer.asked ≡ None) × (l.buffer.reported ≡ None) × (l.buffer.watched ≡ None)
    × Repeats (DoesTurn (SaysOn device.is_honest device.is_metered g.M.Machine.meaning g.M.Machine.IsText)
    g.S.DatagramSocket.is_observable) l.counter l.fn.server l.server
    × Repeats (DoesTurnAndWarns
    (SaysOn device.is_honest device.is_metered g.M.Machine.meaning g.M.Machine.IsText) g.S.DatagramSocket.is_observable
    l.fn.plan.header.node l.fn.plan.port) l.counter
    (reminded l.fn.server l.fn.reminder (g.E.Write.contents l.fn.err))
    (reminded l.server l.reminder (g.E.Write.contents l.err))
    × AreHostsKept (g.P.TextFiles.is_text l.fn.platform) (host_path l.fn.plan.options) l.fn.server l.server
