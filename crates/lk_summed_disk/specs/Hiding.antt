-- A device of which files may be hidden.
use Rattle.std.specs.Prelude.{Bool, true, false, []}
use Rattle.lk_disk.specs.Disk.{Disk}
use Rattle.lk_disk.specs.declared.device.Side.{Side}
use Rattle.lk_disk.specs.declared.device.Side.TheVariants.{A, B}
use Rattle.lk_summed_disk.specs.declared.hiding_disk.Hidden.{Hidden}
use Rattle.lk_summed_disk.specs.declared.hiding_disk.HidingDisk.{HidingDisk}

-- a file of no bytes
abbrev pub nothing : Disk
nothing = record { synced = []; unsynced = [] }

-- the file at this side is hidden
abbrev pub hides : Hidden → Side → Bool
hides h A = h.a
hides h B = h.b

-- a hidden file shows as an empty one
abbrev pub unless_hidden : Bool → Disk → Disk
unless_hidden true d = nothing
unless_hidden false d = d

-- what the device shows; `disk` says what the device below has
abbrev pub shown : {D : Type 0} → (D → Side → Disk) → HidingDisk D → Side → Disk
shown disk d s = unless_hidden (hides d.hidden s) (disk d.inner s)

-- these disks, with the one at this side empty
abbrev pub without : Side → (Side → Disk) → Side → Disk
without A disks A = nothing
without A disks B = disks B
without B disks A = disks A
without B disks B = nothing
