-- How a node that the program runs ends, as a part of its cluster.
use Rattle.std.specs.Prelude.{◌≡◌, ◌⊎◌, ℕ, List}
use Rattle.lk_types.specs.declared.genesis.Genesis.{Genesis}
use Rattle.lk_disk.specs.Disk.{Disk, after_stop}
use Rattle.lk_memory_disk.specs.Memory.{Memory, disk_of}
use Rattle.lk_disk.specs.declared.device.Side.{Side}
use Rattle.lk_replica.specs.ReplicaValue.{ReplicaValue}
use Rattle.lk_server.specs.Servers.{ServerValue}
use Rattle.lk_program_fault.specs.declared.fault.ProgramFault.{ProgramFault}
use Rattle.lk_node_process.specs.Revivals.{Surroundings}
use Rattle.lk_sim_nodes.specs.SimNodes.{At}
use Rattle.lk_sim_nodes.specs.declared.sim_node.RunState.{RunState}
use Rattle.lk_sim_nodes.specs.declared.sim_node.RunState.TheVariants.{Up, Down}
use Rattle.lk_cluster_theorems.specs.Clusters.{Cluster, ForgesNothing, IsReachable, server_disks}
use Rattle.lk_cluster_theorems.specs.Continuing.{node_of, HasNode}
use Rattle.lk_cluster_theorems.specs.Processes.{Move, RunTo, MixWith, MayAllArrive, GoOn, sim_nodes_after}
use Rattle.lk_cluster_theorems.specs.Sealing.{IsSealed, AllMoveSealed}
use Rattle.lk_cluster_theorems.specs.NodeRuns.{NodeRun, BrokenNodeRun, LedNodeRun, RefusedStart, run_moves}
use Rattle.lk_cluster_theorems.specs.NodeRuns.{broken_run_moves, led_run_moves, refused_moves}

-- the cluster has this node at that place, down, with these disks
pub record IsDownOn (c : Cluster) (index n : ℕ) (disks : Side → Disk) : Type 0 where
  pub device : Memory
  pub down : HasNode c index n (Down device)
  pub same : (s : Side) → disk_of device s ≡ disks s

-- the node of a reachable cluster that was down there with these disks, and was run on them with what else was given.
-- `Metered` and `Honest` say that its device counts its calls, and that it is honest
module _ (Metered observable Honest : Type 0) (honest : Honest) (genesis : Genesis) (old : Cluster) (index n : ℕ)
    (disks : Side → Disk) (at : IsDownOn old index n disks) (given : Surroundings) where
  -- these moves take the node to this state; and whatever the processes of the other nodes do at the same time, the
  -- moves of all, in any order, go on from the cluster to one in which the node is so: if nothing that arrives in any
  -- of them is forged, given what any node has sent before; or whatever arrives, if the nodes have had a key from the
  -- beginning, under which only they have sealed
  pub record ContinuesAmong (own : List (Move Metered observable Honest old.genesis))
      (run_state : RunState (ServerValue ReplicaValue)) : Type 0 where
    pub run : RunTo Metered observable Honest old.genesis index (node_of n (Down at.device)) own (node_of n run_state)
    pub go_on : (moves : List (Move Metered observable Honest old.genesis))
        → MixWith Metered observable Honest old.genesis old.sim_nodes index own moves
        → MayAllArrive Metered observable Honest old.genesis ForgesNothing old.sent moves
        → GoOn Metered observable Honest old.genesis honest ForgesNothing genesis old moves
        × At (sim_nodes_after Metered observable Honest old.genesis old.sim_nodes moves) index (node_of n run_state)
    pub go_on_sealed : IsReachable IsSealed Metered observable genesis old
        → (moves : List (Move Metered observable Honest old.genesis))
        → MixWith Metered observable Honest old.genesis old.sim_nodes index own moves
        → AllMoveSealed Metered observable Honest old.genesis old.sent moves
        → GoOn Metered observable Honest old.genesis honest IsSealed genesis old moves
        × At (sim_nodes_after Metered observable Honest old.genesis old.sim_nodes moves) index (node_of n run_state)

  -- it has done this many turns, and is the server that the program has returned
  pub record RunsIn (count : ℕ) (ended : ServerValue ReplicaValue) : Type 0 where
    pub node_run : NodeRun Metered observable Honest old.genesis n disks given count ended
    pub continues : ContinuesAmong
        (run_moves Metered observable Honest old.genesis n disks index at.device at.same node_run) (Up ended)

  -- it has done fewer turns, and then one that ended it: it is down with what that turn has left, which are the disks
  -- of the server that the program has returned
  pub record EndsIn (most : ℕ) (ended : ServerValue ReplicaValue) : Type 0 where
    pub node_run : BrokenNodeRun Metered observable Honest old.genesis n disks given most ended
    pub continues : (left : Memory) (leaves : (s : Side) → disk_of left s ≡ server_disks ended s)
        → ContinuesAmong (broken_run_moves Metered observable Honest old.genesis n disks index at.device at.same
        node_run left leaves) (Down left)

  -- it has done fewer turns, and then one after which it ended, since it had followed a node of another genesis: it is
  -- down with what its device has, as after a stop
  pub record EndsInByStranger (most : ℕ) (ended : ServerValue ReplicaValue) : Type 0 where
    pub node_run : LedNodeRun Metered observable Honest old.genesis n disks given most ended
    pub continues : (left : Memory)
        (kept : (s : Side) → (k : ℕ) × (disk_of left s ≡ after_stop k (server_disks ended s)))
        → ContinuesAmong (led_run_moves Metered observable Honest old.genesis n disks index at.device at.same
        node_run left kept) (Down left)

  -- one of these two
  abbrev pub EndsInEither : ℕ → ServerValue ReplicaValue → Type 0
  EndsInEither most ended = EndsIn most ended ⊎ EndsInByStranger most ended

  -- it did not start, and is down with what the refusal has left, which are the disks of the device that the program
  -- has returned
  pub record RestsIn (told : ProgramFault) (rests : Side → Disk) : Type 0 where
    pub refused : RefusedStart Metered observable Honest old.genesis n disks told rests
    pub continues : (left : Memory) (leaves : (s : Side) → disk_of left s ≡ rests s)
        → ContinuesAmong (refused_moves Metered observable Honest old.genesis n disks index at.device at.same
        refused left leaves) (Down left)
