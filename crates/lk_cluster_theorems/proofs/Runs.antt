-- The moves of a run follow one another from the state in which the node was.
use Rattle.std.proofs.Common.{◌≡◌, ℕ, List, [], ◌∷◌, ◌++◌, refl, subst, append-nil}
use Rattle.lk_types.specs.declared.genesis.Genesis.{Genesis}
use Rattle.lk_disk.specs.Disk.{Disk, after_stop}
use Rattle.lk_disk.specs.declared.device.Side.{Side}
use Rattle.lk_memory_disk.specs.Memory.{Memory, disk_of}
use Rattle.lk_replica.specs.ReplicaValue.{ReplicaValue}
use Rattle.lk_server.specs.Servers.{ServerValue}
use Rattle.lk_program_fault.specs.declared.fault.ProgramFault.{ProgramFault}
use Rattle.lk_transport.specs.Chains.{Chain}
use Rattle.lk_node_process.specs.Revivals.{Surroundings}
use Rattle.lk_node_process.specs.Turns.{DoesTurn}
use Rattle.lk_sim_nodes.specs.declared.sim_node.RunState.TheVariants.{Up, Down}
use Rattle.lk_cluster_theorems.specs.Clusters.{Node, server_disks}
use Rattle.lk_cluster_theorems.specs.Continuing.{node_of}
use Rattle.lk_cluster_theorems.specs.Processes.{SaysIfHonest, Move, RunTo}
use Rattle.lk_cluster_theorems.specs.NodeRuns.{NodeRun, BrokenNodeRun, LedNodeRun, RefusedStart, turn_moves, end_move}
use Rattle.lk_cluster_theorems.specs.NodeRuns.{led_move, stop_move, run_moves, broken_run_moves, led_run_moves}
use Rattle.lk_cluster_theorems.specs.NodeRuns.{refused_moves}

module _ (Metered observable Honest : Type 0) (genesis : Genesis) (n : ℕ) (disks : Side → Disk) (index : ℕ) where
  turns_run : (first : ServerValue ReplicaValue) (states : List (ServerValue ReplicaValue))
      (last : ServerValue ReplicaValue)
      (turns : Chain (DoesTurn (SaysIfHonest Metered Honest) observable) first states last)
      (more : List (Move Metered observable Honest genesis)) (end : Node)
      → RunTo Metered observable Honest genesis index (node_of n (Up last)) more end
      → RunTo Metered observable Honest genesis index (node_of n (Up first))
      (turn_moves Metered observable Honest genesis n disks index first states last turns ++ more) end
  turns_run first [] last turns more end run =
      subst (λ (s : ServerValue ReplicaValue).
      RunTo Metered observable Honest genesis index (node_of n (Up s)) more end) turns run
  turns_run first (next ∷ states) last turns more end run =
      (refl, refl, turns_run next states last turns.1 more end run)

  module _ (device : Memory) (same : (s : Side) → disk_of device s ≡ disks s) where
    pub run_runs : {given : Surroundings} {count : ℕ} {ended : ServerValue ReplicaValue}
        (r : NodeRun Metered observable Honest genesis n disks given count ended)
        → RunTo Metered observable Honest genesis index (node_of n (Down device))
        (run_moves Metered observable Honest genesis n disks index device same r)
        (node_of n (Up ended))
    run_runs {ended = ended} r = (
      refl,
      refl,
      subst (λ (l : List (Move Metered observable Honest genesis)).
          RunTo Metered observable Honest genesis index (node_of n (Up r.started)) l (node_of n (Up ended)))
          (append-nil _)
          (turns_run r.started r.turns.states ended r.turns.chain [] (node_of n (Up ended)) refl),
    )

    pub broken_run_runs : {given : Surroundings} {most : ℕ} {ended : ServerValue ReplicaValue}
        (r : BrokenNodeRun Metered observable Honest genesis n disks given most ended) (left : Memory)
        (leaves : (s : Side) → disk_of left s ≡ server_disks ended s)
        → RunTo Metered observable Honest genesis index (node_of n (Down device))
        (broken_run_moves Metered observable Honest genesis n disks index device same r left leaves)
        (node_of n (Down left))
    broken_run_runs {ended = ended} r left leaves = (
      refl,
      refl,
      turns_run r.started r.breaks.turns.states r.breaks.last r.breaks.turns.chain
          (end_move Metered observable Honest genesis n disks index r.breaks.last ended r.breaks.ends left leaves
          ∷ []) (node_of n (Down left)) (refl, refl, refl),
    )

    pub led_run_runs : {given : Surroundings} {most : ℕ} {ended : ServerValue ReplicaValue}
        (r : LedNodeRun Metered observable Honest genesis n disks given most ended) (left : Memory)
        (kept : (s : Side) → (k : ℕ) × (disk_of left s ≡ after_stop k (server_disks ended s)))
        → RunTo Metered observable Honest genesis index (node_of n (Down device))
        (led_run_moves Metered observable Honest genesis n disks index device same r left kept)
        (node_of n (Down left))
    led_run_runs {ended = ended} r left kept = (
      refl,
      refl,
      turns_run r.started r.leaves.turns.states r.leaves.last r.leaves.turns.chain
          (led_move Metered observable Honest genesis n disks index r.leaves.last ended r.leaves.leave
          ∷ stop_move Metered observable Honest genesis n disks index ended left kept ∷ []) (node_of n (Down left))
          (refl, refl, (refl, refl, refl)),
    )

    pub refused_runs : {told : ProgramFault} {rests : Side → Disk}
        (refused : RefusedStart Metered observable Honest genesis n disks told rests) (left : Memory)
        (leaves : (s : Side) → disk_of left s ≡ rests s)
        → RunTo Metered observable Honest genesis index (node_of n (Down device))
        (refused_moves Metered observable Honest genesis n disks index device same refused left leaves)
        (node_of n (Down left))
    refused_runs refused left leaves = (refl, refl, refl)
