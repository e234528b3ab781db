-- The nodes as they are when their world ends.
use Rattle.std.specs.Prelude.{Bool, true, false}
use Rattle.lk_replica.specs.Behaviours.{Behaviour}
use Rattle.lk_sim_nodes.specs.SimNodes.{device_in}
use Rattle.lk_sim_nodes.specs.declared.left.LeftNode.{LeftNode}
use Rattle.lk_sim_nodes.specs.declared.sim_node.RunState.{RunState}
use Rattle.lk_sim_nodes.specs.declared.sim_node.RunState.TheVariants.{Up, Down}
use Rattle.lk_sim_nodes.specs.declared.sim_node.SimNode.{SimNode}

-- a node is up, or down
abbrev pub is_up : {R : Type 0} → RunState R → Bool
is_up (Up r) = true
is_up (Down d) = false

-- what is left of a node: its number, whether it is up, and its disks
abbrev pub left_of : {R : Type 0} → Behaviour R → SimNode R → LeftNode
left_of b s = record { number = s.number; is_up = is_up s.run_state; device = device_in b s.run_state }
