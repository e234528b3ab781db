-- Which of two files is known to be the older one, and what is opened without it.
use Rattle.std.specs.Prelude.{◌≡◌, ℕ, ◌<◌, ◌++◌, Bool, List, Option, Some, None}
use Rattle.lk_disk.specs.Disk.{Disk, contents, other}
use Rattle.lk_disk.specs.declared.device.Side.{Side}
use Rattle.lk_store_format.specs.Entries.{spelling, IsStored}
use Rattle.lk_store_format.specs.Values.{BaseValue}
use Rattle.lk_store_format.specs.declared.stored.Stored.TheVariants.{Base}
use Rattle.lk_log.specs.Images.{Image}
use Rattle.lk_summed_disk.specs.Frames.{HasSums}
use Rattle.lk_summed_disk.specs.Hiding.{without}
use Rattle.lk_summed_disk.specs.Opened.{IsSoundOn}
use Rattle.lk_summed_disk.specs.Options.{OpensAs}
use Rattle.lk_summed_disk.specs.Readers.{fresh, text}
use Rattle.lk_summed_disk.specs.declared.optional_sums.OptionalSums.{OptionalSums}

-- what can be read of files with sums: each up to its first wrong one
abbrev pub legible : (Side → Disk) → Image
legible disks s = text (fresh s) (contents (disks s))

-- these bytes begin with a Base of this generation
pub record BeginsWith (generation : ℕ) (bytes : List ℕ) : Type 0 where
  pub base : BaseValue
  pub rest : List ℕ
  pub fits : IsStored (Base base)
  pub is : bytes ≡ spelling (Base base) ++ rest
  pub generation_is : base.generation ≡ generation

-- these bytes begin with a Base, and the others with one of a greater generation
pub record IsBelow (bytes others : List ℕ) : Type 0 where
  pub own : ℕ
  pub newer : ℕ
  pub has_own : BeginsWith own bytes
  pub has_newer : BeginsWith newer others
  pub less : own < newer

-- the file at this side has sums
abbrev pub IsSummed : (Side → Disk) → Side → Type 0
IsSummed disks s = HasSums s (contents (disks s))

-- the file at this side has sums, and begins with a Base of this generation, before any wrong sum
abbrev pub HasGeneration : (Side → Disk) → Side → ℕ → Type 0
HasGeneration disks s generation = IsSummed disks s × BeginsWith generation (legible disks s)

-- Both files have sums, and the one at this side is older than the other one: that is read from their Bases, before any
-- wrong sum.
abbrev pub IsOlder : (Side → Disk) → Side → Type 0
IsOlder disks s = IsSummed disks s × IsSummed disks (other s) × IsBelow (legible disks s) (legible disks (other s))

-- the file at this side is not needed: it is older than the other one, which is not damaged
abbrev pub IsReplaced : (Side → Disk) → Side → Type 0
IsReplaced disks s = IsOlder disks s × IsSoundOn disks (other s)

-- A device of these disks is opened so, with both files or with one of them hidden: a damaged one that is not needed.
-- `disk` says what the opened device has below its sums.
abbrev pub OpensFiles : {D : Type 0} → (D → Side → Disk) → Bool → (Side → Disk) → OptionalSums D → Option Side → Type 0
OpensFiles disk asked disks o None = OpensAs disk asked disks o
OpensFiles disk asked disks o (Some s) =
    OpensAs disk asked (without s disks) o × IsReplaced disks s × (IsSoundOn disks s → ⊥)
