-- How a node's start, turn or stop leads its cluster on.
use Rattle.std.specs.Prelude.{◌≡◌, ℕ, List, [], ◌++◌, set}
use Rattle.lk_types.specs.declared.genesis.Genesis.{Genesis}
use Rattle.lk_replica.specs.ReplicaValue.{ReplicaValue}
use Rattle.lk_server.specs.Servers.{ServerValue}
use Rattle.lk_sim_nodes.specs.SimNodes.{At}
use Rattle.lk_sim_nodes.specs.declared.sim_node.RunState.{RunState}
use Rattle.lk_node_interface.specs.Envelopes.{EnvelopeValue, batch_of}
use Rattle.lk_node_interface.specs.declared.note.Note.{Note}
use Rattle.lk_cluster_theorems.specs.Clusters.{Node, Cluster, Network, HappenAll, IsReachable}

-- the node of that number, up or down
abbrev pub node_of : ℕ → RunState (ServerValue ReplicaValue) → Node
node_of n run_state = record { number = n; run_state = run_state }

-- the cluster has this node at that place
abbrev pub HasNode : Cluster → ℕ → ℕ → RunState (ServerValue ReplicaValue) → Type 0
HasNode c index n run_state = At c.sim_nodes index (node_of n run_state)

-- `May` says what the network may bring, `Metered` that the devices count their calls, and `observable` that the
-- sockets reveal what they send
module _ (May : Network) (Metered observable : Type 0) where
  -- events lead on from the cluster to a reachable one: the node at that place is in this state, the others are
  -- unchanged, these envelopes of the node have joined what has been sent, and notes as `Adds` says have joined the
  -- trace
  pub record Continues (genesis : Genesis) (old : Cluster) (index n : ℕ)
      (run_state : RunState (ServerValue ReplicaValue))
      (envelopes : List EnvelopeValue) (Adds : List Note → Type 0) : Type 0 where
    pub cluster : Cluster
    pub events : List Cluster
    pub follows : HappenAll May Metered observable old events cluster
    pub reachable : IsReachable May Metered observable genesis cluster
    pub keeps_genesis : cluster.genesis ≡ old.genesis
    pub sim_nodes : cluster.sim_nodes ≡ set old.sim_nodes index (node_of n run_state)
    pub sent : cluster.sent ≡ old.sent ++ batch_of n envelopes
    pub notes : List Note
    pub adds : Adds notes
    pub trace : cluster.trace ≡ old.trace ++ notes

-- nothing has joined the trace
abbrev pub AddsNothing : List Note → Type 0
AddsNothing notes = notes ≡ []
