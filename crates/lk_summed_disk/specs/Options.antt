-- A device with sums where they were asked for, or where a file has begun with them.
use Rattle.std.specs.Prelude.{◌≡◌, ℕ, Bool, true, false, if◌then◌else◌}
use Rattle.lk_disk.specs.Disk.{Disk, contents}
use Rattle.lk_disk.specs.declared.device.Side.{Side}
use Rattle.lk_summed_disk.specs.Beginnings.{HasBegun}
use Rattle.lk_summed_disk.specs.Frames.{HasSums}
use Rattle.lk_summed_disk.specs.Opened.{IsSoundOn}
use Rattle.lk_summed_disk.specs.Readers.{decoded}
use Rattle.lk_summed_disk.specs.GatheredValue.{gathered_at}
use Rattle.lk_summed_disk.specs.declared.optional_sums.OptionalSums.{OptionalSums}
use Rattle.lk_summed_disk.specs.declared.optional_sums.OptionalSums.TheVariants.{Without, With}

-- `disk` and `failures` say what the device below has
abbrev pub disk_in : {D : Type 0} → (D → Side → Disk) → OptionalSums D → Side → Disk
disk_in disk (Without d) s = disk d s
disk_in disk (With v) s = gathered_at v s

abbrev pub failures_in : {D : Type 0} → (D → ℕ) → OptionalSums D → ℕ
failures_in failures (Without d) = failures d
failures_in failures (With v) = v.failures

-- an empty file begins with sums
abbrev pub is_on : {D : Type 0} → OptionalSums D → Bool
is_on (Without d) = false
is_on (With v) = v.inner.sums

-- it decodes what the files have
abbrev pub decodes : {D : Type 0} → OptionalSums D → Bool
decodes (Without d) = false
decodes (With v) = true

-- sums are wanted if they are asked for, or if a file has begun with them, and else not
pub record IsWanted (asked : Bool) (disks : Side → Disk) (wanted : Bool) : Type 0 where
  pub by_option : asked ≡ true → wanted ≡ true
  pub by_file : (s : Side) → HasBegun s (contents (disks s)) → wanted ≡ true
  pub neither : asked ≡ false → ((s : Side) → HasBegun s (contents (disks s)) → ⊥) → wanted ≡ false

-- A device of these disks is opened so. With sums it shows the decoded disks, of which none is damaged, and an empty
-- file begins with sums if that was asked for or if a file has them; it is one with sums if that was asked for, or if a
-- file has begun with them.
pub record OpensAs {D : Type 0} (disk : D → Side → Disk) (asked : Bool) (disks : Side → Disk)
    (o : OptionalSums D) : Type 0 where
  pub shows : (s : Side) → disk_in disk o s ≡ (if decodes o then decoded s (disks s) else disks s)
  pub sound : decodes o ≡ true → (s : Side) → IsSoundOn disks s
  pub by_option : asked ≡ true → is_on o ≡ true
  pub by_file : (s : Side) → HasSums s (contents (disks s)) → is_on o ≡ true
  pub off : asked ≡ false → ((s : Side) → HasSums s (contents (disks s)) → ⊥) → is_on o ≡ false
  pub begun : (s : Side) → HasBegun s (contents (disks s)) → decodes o ≡ true
  pub as_it_is : asked ≡ false → ((s : Side) → HasBegun s (contents (disks s)) → ⊥) → decodes o ≡ false
