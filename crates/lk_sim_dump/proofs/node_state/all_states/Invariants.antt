use Rattle.std.proofs.Common.{List, ◌++◌}
use Rattle.lk_sim_dump.specs.NodeStates.{AreStatesOf}
use Rattle.lk_sim_dump.specs.declared.node_state.NodeState.{NodeState}
use Rattle.lk_sim_dump.proofs.node_state.all_states.Given as goal

-- with the states of the nodes that are still to come, they are those of all
abbrev pub invariant-each : goal.invariant-each
invariant-each l = (more : List NodeState) → AreStatesOf l.node-iterator.rest.items more
    → AreStatesOf l.fn.nodes.items (l.states.items ++ more)
