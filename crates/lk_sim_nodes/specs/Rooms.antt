-- How long the files of a node may be.
use Rattle.std.specs.Prelude.{ℕ, ◌≤◌, length}
use Rattle.lk_disk.specs.Disk.{Disk, contents}
use Rattle.lk_disk.specs.declared.device.Side.{Side}

-- the most bytes that a file ever has
abbrev pub max_file : ℕ
max_file = 262144

-- neither disk has more bytes
abbrev pub AreShort : (Side → Disk) → Type 0
AreShort disks = (s : Side) → length (contents (disks s)) ≤ max_file
