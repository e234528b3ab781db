use Rattle.std.proofs.Common.{◌≡◌, ◌++◌, map}
use Rattle.lk_sim_nodes.specs.Left.{left_of}
use Rattle.lk_sim_nodes.proofs.left.all_left.Given as goal

-- with the nodes that are still to come, they are all
abbrev pub invariant-sim_nodes : goal.invariant-sim_nodes
invariant-sim_nodes g l = l.nodes.items ++ map (left_of g.R.MemoryReplica.behaves) l.sim_node-iterator.rest.items
    ≡ map (left_of g.R.MemoryReplica.behaves) l.fn.sim_nodes.items
