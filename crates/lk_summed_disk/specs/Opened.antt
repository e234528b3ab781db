-- The files of a device: whether they are damaged.
use Rattle.std.specs.Prelude.{◌≡◌, Bool, true, false, ⊤, Some, None, Result, Ok, Err}
use Rattle.lk_disk.specs.Disk.{Disk, contents}
use Rattle.lk_disk.specs.declared.device.Side.{Side}
use Rattle.lk_disk.specs.declared.device.DeviceFault.{DeviceFault}
use Rattle.lk_summed_disk.specs.Frames.{HasSums}
use Rattle.lk_summed_disk.specs.Readers.{fresh, read, IsSound}
use Rattle.lk_summed_disk.specs.Places.{Holds}
use Rattle.lk_summed_disk.specs.declared.fault.OpenFault.{OpenFault}
use Rattle.lk_summed_disk.specs.declared.fault.OpenFault.TheVariants.{Device, NoMemory, Damaged}
use Rattle.lk_summed_disk.specs.declared.place.Place.{Place}

-- the file at this side is not damaged
abbrev pub IsSoundOn : (Side → Disk) → Side → Type 0
IsSoundOn disks s = IsSound (read (fresh s) (contents (disks s)))

-- if it says damage, then that file is damaged
abbrev pub IsDamagedOn : (Side → Disk) → OpenFault → Type 0
IsDamagedOn disks Device = ⊤
IsDamagedOn disks NoMemory = ⊤
IsDamagedOn disks (Damaged s offset) = IsSoundOn disks s → ⊥

-- it says no damage
abbrev pub IsNoDamage : OpenFault → Type 0
IsNoDamage Device = ⊤
IsNoDamage NoMemory = ⊤
IsNoDamage (Damaged s offset) = ⊥

-- what is known after a call: the place that it returns, and after a failed one nothing but that there is no damage
abbrev pub HoldsAfter : Side → Disk → Result Place DeviceFault → Type 0
HoldsAfter s d (Ok p) = Holds s (contents d) (Some p)
HoldsAfter s d (Err _) = Holds s (contents d) None

-- sums are on if that was asked for, or if a file has sums, and else not
pub record TurnsOn (asked : Bool) (disks : Side → Disk) (on : Bool) : Type 0 where
  pub by_option : asked ≡ true → on ≡ true
  pub by_file : (s : Side) → HasSums s (contents (disks s)) → on ≡ true
  pub neither : asked ≡ false → ((s : Side) → HasSums s (contents (disks s)) → ⊥) → on ≡ false
