-- What a restart of a replica has done, and why it failed.
use Rattle.std.specs.Prelude.{◌≡◌, ℕ, ◌≤◌, false, Result, Ok, Err, List}
use Rattle.lk_disk.specs.Disk.{Disk}
use Rattle.lk_memory_disk.specs.Memory.{Memory, disk_of}
use Rattle.lk_disk.specs.declared.device.Side.{Side}
use Rattle.lk_store_format.specs.Values.{HeaderValue}
use Rattle.lk_log.specs.Images.{seen}
use Rattle.lk_log.specs.StoreValue.{StoreValue}
use Rattle.lk_state.specs.Meanings.{Meaning}
use Rattle.lk_node_interface.specs.declared.note.Note.{Note}
use Rattle.lk_node.specs.Executing.{NothingToRun}
use Rattle.lk_node.specs.NodeValue.{NodeValue}
use Rattle.lk_recovery.specs.Compacting.{Renews}
use Rattle.lk_node_interface.specs.Faults.{failures_by, RefusedAfter}
use Rattle.lk_recovery.specs.Revivals.{RestartsAs, IsLastOld, CallsOfRevival, IsRefusedFor}
use Rattle.lk_replica.specs.ReplicaValue.{ReplicaValue}

-- the replica goes on as the node of this header: neither it nor its store has failed, its node has not halted, it has
-- executed what it can, and the store has format 2
pub record MayGoOn (header : HeaderValue) (r : ReplicaValue) : Type 0 where
  pub whose : r.node.header ≡ header
  pub format : r.store.format ≡ 2
  pub alive : r.failed ≡ false
  pub store_alive : r.store.failed ≡ false
  pub awake : r.node.halted ≡ false
  pub runs : NothingToRun r.node

-- it restarts as this replica, with these notes: a file of format 1 was rebased at once, so it had a generation left
-- for that
pub record Revives (m : Meaning) (IsText : List ℕ → Type 0) (disks : Side → Disk) (whose : HeaderValue)
    (r : ReplicaValue) (notes : List Note) : Type 0 where
  pub node : NodeValue
  pub store : StoreValue
  pub restarts : RestartsAs m IsText disks whose node store notes
  pub renews : Renews node store r.node r.store
  pub further : IsLastOld (seen disks) → ⊥
  pub alive : r.failed ≡ false
  pub store_alive : r.store.failed ≡ false

-- the same with a device in memory: 7 exactly if one of its calls has failed, and no other number than 7 to 11
pub record IsNotRevived (m : Meaning) (IsText : List ℕ → Type 0) (device : Memory) (whose : HeaderValue) (number : ℕ)
    (left : Memory) : Type 0 where
  pub failures : left.failures ≡ failures_by number device.failures
  pub calls : RefusedAfter number device.meter left.meter
  pub cause : IsRefusedFor m IsText (disk_of device) whose number (disk_of left)
  pub only : (7 ≤ number) × (number ≤ 11)

-- the result of a restart
abbrev pub RevivesTo : Meaning → (List ℕ → Type 0) → Memory → HeaderValue
    → Result (ReplicaValue × List Note) (ℕ × Memory) → Type 0
RevivesTo m IsText device whose (Ok came) =
    Revives m IsText (disk_of device) whose came.0 came.1
    × (came.0.store.failures ≡ device.failures)
    × CallsOfRevival (disk_of device) device.meter came.0.store.meter
RevivesTo m IsText device whose (Err left) = IsNotRevived m IsText device whose left.0 left.1
