-- What a contract sees of a device with sums.
use Rattle.std.specs.Prelude.{ℕ, Bool}
use Rattle.lk_disk.specs.Disk.{Disk}
use Rattle.lk_disk.specs.declared.device.Side.{Side}
use Rattle.lk_disk.specs.declared.device.Side.TheVariants.{A, B}
use Rattle.lk_summed_disk.specs.Readers.{decoded}

-- the two disks below, whether an empty file begins with sums, and how many calls have failed
pub record SummedValue : Type 0 where
  pub a : Disk
  pub b : Disk
  pub sums : Bool
  pub failures : ℕ

abbrev pub below_at : SummedValue → Side → Disk
below_at v A = v.a
below_at v B = v.b

-- its own disks are what the bytes below are decoded to
abbrev pub disk_at : SummedValue → Side → Disk
disk_at v s = decoded s (below_at v s)

-- the value of a device over these disks
abbrev pub over : (Side → Disk) → Bool → ℕ → SummedValue
over disks sums failures = record { a = disks A; b = disks B; sums = sums; failures = failures }
