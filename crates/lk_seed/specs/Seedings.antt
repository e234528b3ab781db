-- What a seeded store is.
use Rattle.std.specs.Prelude.{◌≡◌, ℕ, List, [], Some, Ok}
use Rattle.lk_disk.specs.Disk.{Disk, contents}
use Rattle.lk_disk.specs.declared.device.Side.{Side}
use Rattle.lk_memory_disk.specs.Memory.{disk_of, Memory}
use Rattle.lk_store_format.specs.Values.{HeaderValue}
use Rattle.lk_locks.specs.Meaning.{table_meaning}
use Rattle.lk_log.specs.Images.{Image}
use Rattle.lk_node.specs.Histories.{Datagram}
use Rattle.lk_inspect.specs.Inspections.{Finds}
use Rattle.lk_inspect.specs.declared.inspection.Inspection.{Inspection}
use Rattle.lk_replica.specs.Compacted.{CompactsTo}
use Rattle.lk_replica.specs.ReplicaValue.{ReplicaValue, device_of}
use Rattle.lk_seed.specs.Fences.{HasFences}
use Rattle.lk_seed.specs.Histories.{Becomes}
use Rattle.lk_seed.specs.declared.wanted.Wanted.{Wanted}

-- the disks of the only member of this header, after it was asked for nothing but grants of the wanted names, and
-- after it has written all that as one Base
pub record AreLeftBy (header : HeaderValue) (wanted : List Wanted) (disks : Memory) : Type 0 where
  pub replica : ReplicaValue
  pub sent : List Datagram
  pub becomes : Becomes header wanted replica sent
  pub last : ReplicaValue
  pub compacts : CompactsTo table_meaning replica last (Ok tt)
  pub are : disks ≡ device_of last.store

-- the disk has these bytes, and all are synced
abbrev pub HasSynced : Disk → List ℕ → Type 0
HasSynced disk bytes = disk ≡ record { synced = bytes; unsynced = [] }

-- both disks have the bytes of these, all synced
abbrev pub AreCopied : Memory → (Side → Disk) → Type 0
AreCopied from disks = (s : Side) → HasSynced (disks s) (contents (disk_of from s))

-- an inspection of these files finds the wanted fences
pub record HasWanted (wanted : List Wanted) (disks : Side → Disk) : Type 0 where
  pub image : Image
  pub are : (s : Side) → image s ≡ contents (disks s)
  pub inspection : Inspection
  pub finds : Finds image (Some inspection)
  pub has : HasFences wanted inspection.names.items

-- the store is the one that such a member has left, and has the wanted fences
pub record IsSeeded (header : HeaderValue) (wanted : List Wanted) (disks : Side → Disk) : Type 0 where
  pub from : Memory
  pub left : AreLeftBy header wanted from
  pub copied : AreCopied from disks
  pub fenced : HasWanted wanted disks
