-- Images: the bytes of both files as a stop may leave them, and the verdict on them.
use Rattle.std.specs.Prelude.{◌≡◌, ℕ, Bool, nat_lt, ◌||◌, List, if◌then◌else◌}
use Rattle.lk_disk.specs.Disk.{Disk, contents, MayLeave}
use Rattle.lk_disk.specs.declared.device.Side.{Side}
use Rattle.lk_disk.specs.declared.device.Side.TheVariants.{A, B}
use Rattle.lk_store_format.specs.Files.{IsFile}
use Rattle.lk_store_format.specs.declared.stored.Stored.{Stored}
use Rattle.lk_store_format.specs.Bases.{is_misplaced, generation}
use Rattle.lk_log.specs.declared.verdict.Verdict.{Verdict}
use Rattle.lk_log.specs.declared.verdict.Verdict.TheVariants.{Damaged, Empty, Live}

-- the bytes of both files
abbrev pub Image : Type 0
Image = Side → List ℕ

abbrev pub MayLeaveBoth : (Side → Disk) → Image → Type 0
MayLeaveBoth disks image = (s : Side) → MayLeave (disks s) (image s)

-- what a read of both files returns
abbrev pub seen : (Side → Disk) → Image
seen disks s = contents (disks s)

abbrev pub unless_damaged : Bool → Verdict → Verdict
unless_damaged is_damaged v = if is_damaged then Damaged else v

-- The verdict on files with these whole entries and this damage: the file whose Base has the greater generation is
-- live, and damage after the other one's whole entries does not matter; a Base that is not the first entry is damage in
-- either file. Without a Base they are empty.
abbrev pub verdict : List Stored → List Stored → Bool → Bool → Verdict
verdict a b a_damaged b_damaged =
    if is_misplaced a || is_misplaced b then Damaged
    else if nat_lt (generation b) (generation a) then unless_damaged a_damaged (Live A)
    else if nat_lt (generation a) (generation b) then unless_damaged b_damaged (Live B)
    else if nat_lt 0 (generation a) then Damaged
    else unless_damaged (a_damaged || b_damaged) Empty

-- the image has this verdict, and its files have these whole entries
pub record Means (image : Image) (v : Verdict) (entries : Side → List Stored) : Type 0 where
  pub is_damaged : Side → Bool
  pub file : (s : Side) → IsFile (image s) (entries s) (is_damaged s)
  pub is : verdict (entries A) (entries B) (is_damaged A) (is_damaged B) ≡ v

-- the live file has these whole entries
pub record IsLive (image : Image) (es : List Stored) : Type 0 where
  pub side : Side
  pub entries : Side → List Stored
  pub means : Means image (Live side) entries
  pub are : entries side ≡ es

-- neither file has a Base, and nothing is damaged
abbrev pub IsEmpty : Image → Type 0
IsEmpty image = (entries : Side → List Stored) × Means image Empty entries

abbrev pub IsDamaged : Image → Type 0
IsDamaged image = (entries : Side → List Stored) × Means image Damaged entries

-- the second image has every verdict, with the whole entries, that the first has
abbrev pub SameMeaning : Image → Image → Type 0
SameMeaning before image = (v : Verdict) (entries : Side → List Stored) → Means before v entries → Means image v entries

-- each image of the new disks has the verdict and the whole entries of some image of the old ones
abbrev pub Narrows : (Side → Disk) → (Side → Disk) → Type 0
Narrows old new =
    (image : Image) → MayLeaveBoth new image → (before : Image) × MayLeaveBoth old before × SameMeaning before image
