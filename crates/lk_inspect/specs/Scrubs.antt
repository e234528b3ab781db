-- What a scrub finds.
use Rattle.lk_disk.specs.Disk.{Disk}
use Rattle.lk_disk.specs.declared.device.Side.{Side}
use Rattle.lk_summed_disk.specs.Opened.{IsSoundOn}

-- neither file is damaged: where it has sums, each is right, but for what a stop may leave at its end
abbrev pub AreSound : (Side → Disk) → Type 0
AreSound disks = (s : Side) → IsSoundOn disks s
