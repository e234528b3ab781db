-- A file that grows at its end, what its calls do to it, and what a stop may leave.
use Rattle.std.specs.Prelude.{◌≡◌, ℕ, ◌<◌, ◌⊎◌, ◌++◌, [], Bool, true, false, Option, Some, None, Result, Ok, Err, ⊤}
use Rattle.std.specs.Prelude.{length, take, drop}
use Rattle.lk_disk.specs.Disk.{Disk, contents, one_more}
use Rattle.lk_disk.specs.declared.device.Side.{Side}
use Rattle.lk_disk.specs.declared.device.Side.TheVariants.{A, B}

pub data File : Type 0 where
  -- these are its bytes
  whole : Disk → File
  -- it shows the first n of these bytes, while a stop may still leave more
  truncated : ℕ → Disk → File
  -- a call failed: a stop may leave these bytes, and its content is unknown
  broken : Disk → File

-- the same bytes, without the sync of those after the first n
abbrev pub loosened : ℕ → Disk → Disk
loosened n d = record { synced = take n d.synced; unsynced = drop n d.synced ++ d.unsynced }

-- what a stop may leave of it is what it may leave of this disk
abbrev pub left_of : File → Disk
left_of (whole d) = d
left_of (truncated n d) = loosened n d
left_of (broken d) = d

-- nothing is known of it
abbrev pub unknown : File
unknown = broken (record { synced = []; unsynced = [] })

-- its content is known, and is all that a stop may leave
abbrev pub IsWhole : File → Type 0
IsWhole f = f ≡ whole (left_of f)

-- if a length is known, the disk has as many bytes
abbrev pub HasLength : Option ℕ → Disk → Type 0
HasLength None d = ⊤
HasLength (Some n) d = n ≡ length (contents d)

-- what a contract sees of a file that is used until a call of it fails
pub record FailStopFile : Type 0 where
  pub file : File
  pub failures : ℕ
  pub failed : Bool

-- a call was rejected, untried, since the file had failed before
abbrev pub IsUntried : FailStopFile → FailStopFile → Type 0
IsUntried old new = (old.failed ≡ true) × (new ≡ old)

-- a call of the file failed
abbrev pub HasFailed : FailStopFile → FailStopFile → Type 0
HasFailed old new = (old.failed ≡ false) × (new.failures ≡ one_more old.failures)

-- all calls of the file succeeded, and it goes on
abbrev pub HasSucceeded : FailStopFile → FailStopFile → Type 0
HasSucceeded old new = (old.failed ≡ false) × (new.failed ≡ false) × (new.failures ≡ old.failures)

-- a call succeeded with all calls of the file; or it failed, since the file had failed before, or a call of it did now
abbrev pub IsCaused : {T E : Type 0} → FailStopFile → FailStopFile → Result T E → Type 0
IsCaused old new (Ok _) = HasSucceeded old new
IsCaused old new (Err _) = IsUntried old new ⊎ HasFailed old new

-- the same of a cut to len bytes, which fails too if an honest file has fewer
abbrev pub IsCutCaused : {T E : Type 0} → Type 0 → ℕ → FailStopFile → FailStopFile → Result T E → Type 0
IsCutCaused is_honest len old new (Ok _) = HasSucceeded old new
IsCutCaused is_honest len old new (Err _) =
    IsUntried old new ⊎ HasFailed old new
    ⊎ (HasSucceeded old new × (is_honest → length (contents (left_of old.file)) < len))

-- what a contract sees of a device of two such files
pub record FilePair : Type 0 where
  pub a : FailStopFile
  pub b : FailStopFile
  pub failures : ℕ

abbrev pub used_at : FilePair → Side → FailStopFile
used_at p A = p.a
used_at p B = p.b

-- the disk at a side
abbrev pub disk_at : FilePair → Side → Disk
disk_at p side = left_of (used_at p side).file
