use Rattle.std.proofs.Common.{◌≡◌, ◌+◌, ◌≤◌, drop}
use Rattle.lk_sim_dump.specs.NodeStates.{bound_for_nodes}
use Rattle.lk_sim_dump.proofs.node_state.bound_for_nodes.Given as goal

-- those that were counted, and those that are left, are all
abbrev pub invariant-loop-datagram : goal.invariant-loop-datagram
invariant-loop-datagram l =
    (l.count + bound_for_nodes (drop l.datagram-index l.sent) ≡ bound_for_nodes l.sent) × (l.count ≤ l.datagram-index)
