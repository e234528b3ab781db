-- What a contract sees of a device with sums whose appended bytes wait in memory.
use Rattle.std.specs.Prelude.{ℕ}
use Rattle.lk_disk.specs.Disk.{Disk}
use Rattle.lk_disk.specs.declared.device.Side.{Side}
use Rattle.lk_disk.specs.declared.device.Side.TheVariants.{A, B}
use Rattle.lk_summed_disk.specs.SummedValue.{SummedValue, disk_at}
use Rattle.lk_summed_disk.specs.Waits.{gathered}
use Rattle.lk_summed_disk.specs.declared.waiting.Waiting.{Waiting}

-- the device with sums, what waits at each side, and how many calls have failed
pub record GatheredValue : Type 0 where
  pub inner : SummedValue
  pub a : Waiting
  pub b : Waiting
  pub failures : ℕ

abbrev pub waiting_at : GatheredValue → Side → Waiting
waiting_at v A = v.a
waiting_at v B = v.b

abbrev pub gathered_at : GatheredValue → Side → Disk
gathered_at v s = gathered (waiting_at v s) (disk_at v.inner s)
