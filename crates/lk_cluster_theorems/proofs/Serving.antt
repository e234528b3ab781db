-- A node that starts, or does not, is as its cluster has it.
use Rattle.std.proofs.Common.{◌≡◌, ℕ, ap, sym, subst₂}
use Rattle.lk_types.specs.Limits.{max_base_of}
use Rattle.lk_disk.specs.Disk.{Disk}
use Rattle.lk_memory_disk.specs.Memory.{Memory, disk_of}
use Rattle.lk_disk.specs.declared.device.Side.{Side}
use Rattle.lk_locks.specs.Meaning.{table_meaning}
use Rattle.lk_locks.specs.Packed.{IsTableText}
use Rattle.lk_log.specs.StoreValue.{disks}
use Rattle.lk_log.proofs.Room.{most_base, refused_room, never_longer}
use Rattle.lk_node.specs.Histories.{Genesis}
use Rattle.lk_node.specs.Leavings.{header_of}
use Rattle.lk_replica.specs.ReplicaValue.{ReplicaValue}
use Rattle.lk_server.specs.Servers.{ServerValue}
use Rattle.lk_program_fault.specs.declared.fault.ProgramFault.{ProgramFault}
use Rattle.lk_node_process.specs.Revivals.{IsServerStarted, IsRefusedWith, StaysDown}
use Rattle.lk_sim.specs.Networks.{RestsBy}
use Rattle.lk_cluster_theorems.specs.Clusters.{HasStarted}

-- a server that was taken up is one of the cluster
abbrev pub begun_in : (Honest : Type 0) (genesis : Genesis) (n : ℕ) (old : Side → Disk) (s : ServerValue ReplicaValue)
    → Honest → IsServerStarted table_meaning Honest old (header_of genesis n) s → HasStarted genesis n old s
begun_in Honest genesis n old s honest begun =
    let up = begun.comes_up honest in
    record {
      notes = up.notes;
      restarts = record {
        goes = λ h is lawful fit. up.goes h n (ap (λ (z : Genesis). header_of z n) (sym is)) lawful fit;
        short =
            λ short. never_longer old (disks s.replica.store)
            (refused_room (max_base_of genesis.alpha) old (disks s.replica.store) (most_base genesis.alpha) up.room)
            short;
      };
      loopback = begun.loopback;
      alive = begun.ready.alive;
    }

-- one that was not taken up rests
rests_in : (genesis : Genesis) (n : ℕ) (old left : Side → Disk)
    → StaysDown table_meaning (header_of genesis n) old left → RestsBy table_meaning genesis n old left
rests_in genesis n old left down = record {
  ends = λ h is lawful fit. down.fits h n (ap (λ (z : Genesis). header_of z n) (sym is)) lawful fit;
  short = λ short. never_longer old left
      (refused_room (max_base_of genesis.alpha) old left (most_base genesis.alpha) down.room) short;
}

pub refused_rests : (Honest : Type 0) → Honest → (genesis : Genesis) (n : ℕ) (device left : Memory) (old : Side → Disk)
    → ((s : Side) → disk_of device s ≡ old s)
    → (told : ProgramFault) (rests : Side → Disk)
    → IsRefusedWith table_meaning IsTableText Honest old (header_of genesis n) told rests
    → ((s : Side) → disk_of left s ≡ rests s)
    → RestsBy table_meaning genesis n (disk_of device) (disk_of left)
refused_rests Honest honest genesis n device left old same told rests refused same_left =
    subst₂ (λ (d e : Side → Disk). RestsBy table_meaning genesis n d e) (λ i s. sym (same s) i)
    (λ i s. sym (same_left s) i) (rests_in genesis n old rests (refused.refused.stays_down honest))
