-- The states of the nodes of a world when it ends.
use Rattle.std.specs.Prelude.{◌≡◌, ⊤, ℕ, ◌+◌, Bool, true, false, List, [], ◌∷◌, length, IfOk, if◌then◌else◌}
use Rattle.lk_disk.specs.Disk.{contents}
use Rattle.lk_memory_disk.specs.Memory.{disk_of}
use Rattle.lk_agreement_laws.specs.declared.party.Party.{Party}
use Rattle.lk_agreement_laws.specs.declared.party.Party.TheVariants as party
use Rattle.lk_log.specs.Images.{seen}
use Rattle.lk_replica.specs.declared.datagram.Datagram.{Datagram}
use Rattle.lk_sim_nodes.specs.declared.left.LeftNode.{LeftNode}
use Rattle.lk_inspect.specs.Inspections.{Finds}
use Rattle.lk_sim_dump.specs.declared.node_state.NodeState.{NodeState}

-- the node's number, whether it is up, how many bytes its disks have and how many are synced, and what its store holds
pub record IsStateOf (node : LeftNode) (state : NodeState) : Type 0 where
  pub number : state.number ≡ node.number
  pub up : state.is_up ≡ node.is_up
  pub written_a : state.written.0 ≡ length (contents node.device.a)
  pub written_b : state.written.1 ≡ length (contents node.device.b)
  pub synced_a : state.synced.0 ≡ length node.device.a.synced
  pub synced_b : state.synced.1 ≡ length node.device.b.synced
  pub found : IfOk state.found (Finds (seen (disk_of node.device)))

-- one state for each node, in order
abbrev pub AreStatesOf : List LeftNode → List NodeState → Type 0
AreStatesOf [] [] = ⊤
AreStatesOf [] (state ∷ states) = ⊥
AreStatesOf (node ∷ nodes) [] = ⊥
AreStatesOf (node ∷ nodes) (state ∷ states) = IsStateOf node state × AreStatesOf nodes states

-- the party is a node
abbrev pub is_node : Party → Bool
is_node (party.Node n) = true
is_node (party.Client c) = false

-- how many datagrams are bound for nodes
abbrev pub bound_for_nodes : List Datagram → ℕ
bound_for_nodes [] = 0
bound_for_nodes (d ∷ ds) = if is_node d.to then bound_for_nodes ds + 1 else bound_for_nodes ds
