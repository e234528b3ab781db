-- Three new nodes, each run by the program, between whose sockets a network carries.
use Rattle.std.specs.Prelude.{◌≡◌, ◌<◌, ℕ, List, [], ◌∷◌}
use Rattle.std.specs.List.{AllByRecursion}
use Rattle.lk_types.specs.declared.genesis.Genesis.{Genesis}
use Rattle.lk_disk.specs.declared.device.Side.{Side}
use Rattle.lk_memory_disk.specs.Memory.{Memory, disk_of}
use Rattle.lk_replica.specs.ReplicaValue.{ReplicaValue}
use Rattle.lk_server.specs.Servers.{ServerValue}
use Rattle.lk_node_process.specs.Revivals.{Surroundings}
use Rattle.lk_sim_nodes.specs.declared.sim_node.RunState.TheVariants.{Down}
use Rattle.lk_cluster_theorems.specs.Carrying.{AllBrought}
use Rattle.lk_cluster_theorems.specs.Clusters.{Node}
use Rattle.lk_cluster_theorems.specs.Continuing.{node_of}
use Rattle.lk_cluster_theorems.specs.NodeRuns.{NodeRun, run_moves}
use Rattle.lk_cluster_theorems.specs.Processes.{Move, AreOwn}

-- `Metered` says that the devices count their calls, `observable` that the sockets reveal what they send, and `Honest`
-- that the devices are honest
module _ (Metered observable Honest : Type 0) (genesis : Genesis) where
  -- the node of this number has run from two empty disks, for so many turns, as the program's contract ensures
  pub record NewRun (n : ℕ) : Type 0 where
    pub device : Memory
    pub empty : (s : Side) → disk_of device s ≡ record { synced = []; unsynced = [] }
    pub given : Surroundings
    pub turns : ℕ
    pub ended : ServerValue ReplicaValue
    pub run : NodeRun Metered observable Honest genesis n
        (λ s. record { synced = []; unsynced = [] }) given turns ended

  -- the node before its run
  abbrev pub node_before : {n : ℕ} → NewRun n → Node
  node_before {n = n} r = node_of n (Down r.device)

  -- its moves, at that place of the cluster
  abbrev pub moves_at : {n : ℕ} → ℕ → NewRun n → List (Move Metered observable Honest genesis)
  moves_at {n = n} index r =
      run_moves Metered observable Honest genesis n (λ s. record { synced = []; unsynced = [] }) index r.device r.empty
      r.run

  -- nodes 1, 2 and 3 have run so, at the same time: these are their moves, in the order in which they were made. What
  -- came to a socket one of the three sockets had sent, or it is no node's message
  pub record ThreeNodesRun (moves : List (Move Metered observable Honest genesis)) : Type 0 where
    pub first : NewRun 1
    pub second : NewRun 2
    pub third : NewRun 3
    pub placed : AllByRecursion (λ (m : Move Metered observable Honest genesis). m.index < 3) moves
    pub are_first : AreOwn Metered observable Honest genesis 0 (moves_at 0 first) moves
    pub are_second : AreOwn Metered observable Honest genesis 1 (moves_at 1 second) moves
    pub are_third : AreOwn Metered observable Honest genesis 2 (moves_at 2 third) moves
    pub brought : AllBrought Metered observable Honest genesis [] moves

  -- the three of them before that
  abbrev pub three_nodes : {moves : List (Move Metered observable Honest genesis)} → ThreeNodesRun moves → List Node
  three_nodes r = node_before r.first ∷ node_before r.second ∷ node_before r.third ∷ []
