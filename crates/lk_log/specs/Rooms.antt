-- Bounds on the growth of a store's files.
use Rattle.std.specs.Prelude.{ℕ, ◌≤◌, max, length}
use Rattle.lk_disk.specs.Disk.{Disk, contents}
use Rattle.lk_disk.specs.declared.device.Side.{Side}

-- neither file has grown, except up to this many bytes
abbrev pub StaysWithin : ℕ → (Side → Disk) → (Side → Disk) → Type 0
StaysWithin most old new = (s : Side) → length (contents (new s)) ≤ max (length (contents (old s))) most
