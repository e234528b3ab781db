-- What a contract sees of a store.
use Rattle.std.specs.Prelude.{ℕ, Bool}
use Rattle.lk_disk.specs.Disk.{Disk}
use Rattle.lk_disk.specs.declared.meter.Meter.{Meter}
use Rattle.lk_disk.specs.declared.device.Side.{Side}
use Rattle.lk_disk.specs.declared.device.Side.TheVariants.{A, B}
use Rattle.lk_store_format.specs.Values.{HeaderValue}

-- the disk of the live file and the other one, how many of the device's calls have failed, what makes it fail, which
-- side is live, the generation and the format of its Base, whose store it is, and whether the store rejects all calls
pub record StoreValue : Type 0 where
  pub live_disk : Disk
  pub other_disk : Disk
  pub failures : ℕ
  pub meter : Meter
  pub live : Side
  pub generation : ℕ
  pub format : ℕ
  pub header : HeaderValue
  pub failed : Bool

-- one thing at a side, and another one at the other side
abbrev pub pick : {X : Type 0} → Side → X → X → Side → X
pick A here there A = here
pick A here there B = there
pick B here there A = there
pick B here there B = here

-- the disks of its device
abbrev pub disks : StoreValue → Side → Disk
disks s = pick s.live s.live_disk s.other_disk
