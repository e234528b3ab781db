-- What a contract sees of a file in memory.
use Rattle.std.specs.Prelude.{ℕ, Option, Some, None}
use Rattle.lk_disk.specs.Disk.{Disk}
use Rattle.lk_disk.specs.Files.{File, whole, truncated, broken}

-- its state, and how many calls have failed
pub record CountedFile : Type 0 where
  pub file : File
  pub failures : ℕ

-- its bytes, including those that it shows no longer
abbrev pub bytes_of : File → Disk
bytes_of (whole d) = d
bytes_of (truncated n d) = d
bytes_of (broken d) = d

-- a file of these bytes that shows all of them, or this many of the first
abbrev pub file_showing : Option ℕ → Disk → File
file_showing None d = whole d
file_showing (Some n) d = truncated n d
