-- What a contract sees of a device in memory.
use Rattle.std.specs.Prelude.{ℕ, min, max, length, []}
use Rattle.lk_disk.specs.Disk.{Disk, contents, cut_to, after_stop, one_more}
use Rattle.lk_disk.specs.Meters.{fresh, called, starving, asked, disarmed}
use Rattle.lk_disk.specs.declared.device.Side.{Side}
use Rattle.lk_disk.specs.declared.device.Side.TheVariants.{A, B}
use Rattle.lk_disk.specs.declared.meter.Meter.{Meter}

pub record Memory : Type 0 where
  pub a : Disk
  pub b : Disk
  -- what makes it fail
  pub meter : Meter
  pub failures : ℕ

-- two empty disks, which nothing makes fail
abbrev pub empty : Memory
empty = record {
  a = record { synced = []; unsynced = [] };
  b = record { synced = []; unsynced = [] };
  meter = fresh;
  failures = 0;
}

abbrev pub disk_of : Memory → Side → Disk
disk_of m A = m.a
disk_of m B = m.b

-- one disk has changed
abbrev pub with_disk : Side → Disk → Memory → Memory
with_disk A d m = record m { a = d }
with_disk B d m = record m { b = d }

-- a changing call was counted
abbrev pub counted : Memory → Memory
counted m = record m { meter = called m.meter }

-- a reading call was counted
abbrev pub read_counted : Memory → Memory
read_counted m = record m { meter = asked m.meter }

-- a call failed
abbrev pub failed : Memory → Memory
failed m = record m { failures = one_more m.failures }

-- the disk after a cut to n that an armed stop interrupts: it keeps this many bytes, but at least n, and no more than
-- there were
abbrev pub cut_within : ℕ → ℕ → Disk → Disk
cut_within n bytes d = cut_to (min (max bytes n) (length (contents d))) d

-- a changing call failed, and no disk has changed
abbrev pub refused : Memory → Memory
refused m = failed (counted m)

-- a call ran out of memory, and no disk has changed
abbrev pub wanting : Memory → Memory
wanting m = failed (record m { meter = starving m.meter })

-- after a stop that keeps up to x of the unsynced bytes of A and up to y of those of B: what is left is synced, and
-- nothing makes a changing call fail
abbrev pub stopped : ℕ → ℕ → Memory → Memory
stopped x y m = record m { a = after_stop x m.a; b = after_stop y m.b; meter = disarmed m.meter }
