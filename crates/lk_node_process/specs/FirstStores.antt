-- How the store of a node begins.
use Rattle.std.specs.Prelude.{ℕ, List}
use Rattle.lk_disk.specs.Disk.{Disk}
use Rattle.lk_disk.specs.declared.device.Side.{Side}
use Rattle.lk_store_format.specs.Values.{HeaderValue}
use Rattle.lk_log.specs.Images.{IsEmpty, seen}
use Rattle.lk_state.specs.Meanings.{Meaning}
use Rattle.lk_node_interface.specs.declared.note.Note.{Note}
use Rattle.lk_replica.specs.ReplicaValue.{ReplicaValue}
use Rattle.lk_replica.specs.Revived.{Revives}

-- these disks had no store, and this replica of the header's node restarts exactly from that: from a new store
pub record BeginsStore (m : Meaning) (IsText : List ℕ → Type 0) (header : HeaderValue) (old : Side → Disk)
    (r : ReplicaValue) : Type 0 where
  pub none : IsEmpty (seen old)
  pub notes : List Note
  pub revives : Revives m IsText old header r notes
