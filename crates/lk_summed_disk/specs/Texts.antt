-- What can be read of a file with sums, damaged or not.
use Rattle.std.specs.Prelude.{◌≡◌, ℕ, List}
use Rattle.lk_disk.specs.declared.device.Side.{Side}
use Rattle.lk_summed_disk.specs.Frames.{HasSums}
use Rattle.lk_summed_disk.specs.Readers.{fresh, text}

-- the file of these bytes has sums, and this is the text of its frames, up to the first one that is not whole or whose
-- sum is wrong
abbrev pub IsLegible : Side → List ℕ → List ℕ → Type 0
IsLegible s bytes t = HasSums s bytes × (t ≡ text (fresh s) bytes)
