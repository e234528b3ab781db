-- An older file without sums beside a file with sums, and what a start does with it.
use Rattle.std.specs.Prelude.{◌≡◌, ◌⊎◌, Bool, Option}
use Rattle.lk_disk.specs.Disk.{Disk, contents, fully_synced, other, CutShort}
use Rattle.lk_disk.specs.declared.device.Side.{Side}
use Rattle.lk_log.specs.Images.{Image}
use Rattle.lk_summed_disk.specs.Hiding.{nothing}
use Rattle.lk_summed_disk.specs.Opened.{IsSoundOn}
use Rattle.lk_summed_disk.specs.Readers.{fresh, text}
use Rattle.lk_summed_disk.specs.declared.optional_sums.OptionalSums.{OptionalSums}
use Rattle.lk_node_files.specs.Older.{IsBelow, IsSummed, OpensFiles, legible}

-- The file at this side has no sums and is not needed: it begins with a Base, and the other one has sums, is not
-- damaged, and begins with a Base of a greater generation.
pub record IsOutdated (disks : Side → Disk) (s : Side) : Type 0 where
  pub no_sums : IsSummed disks s → ⊥
  pub sums : IsSummed disks (other s)
  pub sound : IsSoundOn disks (other s)
  pub below : IsBelow (contents (disks s)) (legible disks (other s))

-- the file at this side was cut, as far as the call came, after the other one was synced
abbrev pub IsCut : (Side → Disk) → (Side → Disk) → Side → Type 0
IsCut old new s = CutShort 0 (old s) (new s) × (new (other s) ≡ fully_synced (old (other s)))

-- neither file has changed
abbrev pub AreKept : (Side → Disk) → (Side → Disk) → Type 0
AreKept old new = (s : Side) → new s ≡ old s

-- the outdated file was cut to nothing, or there is none, and neither file has changed
abbrev pub CutsOutdated : (Side → Disk) → (Side → Disk) → Type 0
CutsOutdated old new =
    ((s : Side) × IsOutdated old s × IsCut old new s × (new s ≡ nothing))
    ⊎ (((s : Side) → IsOutdated old s → ⊥) × AreKept old new)

-- a failed cut of the outdated file: it is cut short, or neither file has changed
abbrev pub CutsSome : (Side → Disk) → (Side → Disk) → Type 0
CutsSome old new = ((s : Side) × IsOutdated old s × IsCut old new s) ⊎ AreKept old new

-- a device of these disks is opened after such a cut
abbrev pub OpensCut : {D : Type 0} → (D → Side → Disk) → Bool → (Side → Disk) → OptionalSums D → Option Side → Type 0
OpensCut disk asked disks o hidden =
    (left : Side → Disk) × CutsOutdated disks left × OpensFiles disk asked left o hidden

-- what can be read of the files that a stop has left, each up to its first wrong sum
abbrev pub decoded_image : Image → Image
decoded_image image s = text (fresh s) (image s)
