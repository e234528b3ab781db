-- Properties that every image of two disks has, and the images that several openings in a row may leave.
use Rattle.std.specs.Prelude.{ℕ, ◌⊎◌, List, [], ◌∷◌}
use Rattle.lk_disk.specs.Disk.{Disk}
use Rattle.lk_disk.specs.declared.device.Side.{Side}
use Rattle.lk_store_format.specs.Values.{HeaderValue}
use Rattle.lk_store_format.specs.declared.stored.Stored.{Stored}
use Rattle.lk_store_format.specs.declared.stored.Stored.TheVariants.{Base}
use Rattle.lk_log.specs.Images.{Image, MayLeaveBoth, Means, IsLive, IsEmpty, SameMeaning}
use Rattle.lk_log.specs.Stores.{first_base, Found}
use Rattle.lk_log.specs.declared.verdict.Verdict.{Verdict}

-- each image has a verdict
abbrev pub AllMean : (Side → Disk) → Type 0
AllMean disks =
    (image : Image) → MayLeaveBoth disks image → (v : Verdict) × (entries : Side → List Stored) × Means image v entries

-- each image has entries with this property: those of its live file, or those of a new store if it is empty
abbrev pub EveryFound : (Side → Disk) → HeaderValue → List ℕ → (List Stored → Type 0) → Type 0
EveryFound disks whose zero P =
    (image : Image) → MayLeaveBoth disks image → (es : List Stored) × Found image whose zero es × P es

-- Each image of the new disks has the verdict and the entries of some image of the old ones, or is a new store if some
-- image of the old ones was empty. `NarrowsOrIsNew` of one opening is about the image that it read; this holds for
-- several openings in a row.
abbrev pub NarrowsOrIsNewForSome : (Side → Disk) → (Side → Disk) → HeaderValue → List ℕ → Type 0
NarrowsOrIsNewForSome old new whose zero = (image : Image) → MayLeaveBoth new image
    → ((before : Image) × MayLeaveBoth old before × SameMeaning before image)
    ⊎ (((empty : Image) × MayLeaveBoth old empty × IsEmpty empty) × IsLive image (Base (first_base whose zero) ∷ []))
