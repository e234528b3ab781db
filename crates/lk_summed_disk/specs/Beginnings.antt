-- A file that has begun with sums.
use Rattle.std.specs.Prelude.{◌≡◌, ◌≢◌, ℕ, List, [], length, take}
use Rattle.lk_disk.specs.declared.device.Side.{Side}
use Rattle.lk_summed_disk.specs.Frames.{magic}

-- these are the first bytes of a magic, or all of them
pub record IsFront (s : Side) (bytes : List ℕ) : Type 0 where
  pub some : bytes ≢ []
  pub is : bytes ≡ take (length bytes) (magic s)

-- a file begins with them: a stop may have left no more
abbrev pub HasBegun : Side → List ℕ → Type 0
HasBegun s bytes = IsFront s (take 8 bytes)
