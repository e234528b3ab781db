-- A node of a cluster that is down comes back.
use Rattle.std.proofs.Common.{◌≡◌, ℕ, inl, inr, refl, subst}
use Rattle.lk_disk.specs.Disk.{Disk}
use Rattle.lk_memory_disk.specs.Memory.{Memory, disk_of}
use Rattle.lk_disk.specs.declared.device.Side.{Side}
use Rattle.lk_locks.specs.Meaning.{table_meaning}
use Rattle.lk_locks.specs.Packed.{IsTableText}
use Rattle.lk_node.specs.Histories.{Genesis}
use Rattle.lk_node.specs.Leavings.{header_of, DisksFit}
use Rattle.lk_node_process.specs.Revivals.{IsRestartRefused}
use Rattle.lk_sim.specs.Traces.{happened}
use Rattle.lk_sim_nodes.specs.declared.sim_node.RunState.TheVariants.{Down}
use Rattle.lk_sim.proofs.Networks.{holds_down}
use Rattle.lk_guarantees.specs.ComingBack.{IsExcused}
use Rattle.lk_cluster_theorems.specs.Clusters.{Cluster, Network, ServerHolds, IsReachable, server_disks}
use Rattle.lk_cluster_theorems.specs.Continuing.{node_of, HasNode}
use Rattle.lk_cluster_theorems.proofs.Keeping.{Unforged, reachable_sound}
use Rattle.lk_node_interface.specs.Faults.{IsNumberOfRevival}
use Rattle.lk_recovery.specs.Revivals.{IsRefusedFor}

excused : (disks left : Side → Disk) (n : ℕ) (genesis : Genesis) (number : ℕ) → IsNumberOfRevival number
    → IsRefusedFor table_meaning IsTableText disks (header_of genesis n) number left → IsExcused disks number
excused disks left n genesis number by why = elim by [
  | inl device ↦ inl device
  | inr (inl memory) ↦ inr (inl memory)
  | inr (inr last) ↦ inr (inr (last, why.last last))
]

pub comes_back : (May : Network) (Metered observable : Type 0) → Unforged May → (Honest : Type 0) → Honest
    → (genesis : Genesis) (cluster : Cluster) → IsReachable May Metered observable genesis cluster
    → (index n : ℕ) (device : Memory) → HasNode cluster index n (Down device)
    → (disks : Side → Disk) → ((s : Side) → disk_of device s ≡ disks s) → (number : ℕ) (left : Side → Disk)
    → IsRestartRefused table_meaning IsTableText Honest disks (header_of cluster.genesis n) number left
    → IsExcused disks number
comes_back May Metered observable unforged Honest honest genesis cluster all index n device at disks
    same number left refused =
    let h = happened cluster.genesis cluster.sent cluster.trace in
    let down = holds_down ServerHolds server_disks table_meaning cluster
    (reachable_sound May Metered observable unforged genesis cluster all).holds index
    (node_of n (Down device)) at device refl in
    let fit : DisksFit table_meaning h n disks =
    subst (λ (d : Side → Disk). DisksFit table_meaning h n d) (λ i s. same s i) down.1 in
    excused disks left n cluster.genesis number (refused.comes_back honest h n refl down.0 fit) (refused.cause honest)
