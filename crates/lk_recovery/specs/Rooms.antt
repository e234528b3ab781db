-- Bounds on what a call may write, in bytes.
use Rattle.std.specs.Prelude.{ℕ, ◌+◌, ◌*◌, ◌≤◌, max, length}
use Rattle.lk_types.specs.Limits.{max_base}
use Rattle.lk_disk.specs.Disk.{Disk, contents}
use Rattle.lk_disk.specs.declared.device.Side.{Side}

-- by a step: sixteen entries of 102 bytes, 1,632 of the 4,096 that it may append
abbrev pub max_step : ℕ
max_step = 102 * 16

-- the length of a file after a step before which no rebase was due
abbrev pub max_after : ℕ
max_after = 131072 + max_step

-- neither file has grown by more than a step
abbrev pub GrowsByStep : (Side → Disk) → (Side → Disk) → Type 0
GrowsByStep old new = (s : Side) → length (contents (new s)) ≤ length (contents (old s)) + max_step

-- the same, but a Base may also have replaced what the file held
abbrev pub GrowsFromBase : (Side → Disk) → (Side → Disk) → Type 0
GrowsFromBase old new = (s : Side) → length (contents (new s)) ≤ max (length (contents (old s))) max_base + max_step

-- the same of this many steps
abbrev pub GrowsBySteps : ℕ → (Side → Disk) → (Side → Disk) → Type 0
GrowsBySteps steps old new =
    (s : Side) → length (contents (new s)) ≤ max (length (contents (old s))) max_base + max_step * steps
