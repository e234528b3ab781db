-- A meter: what makes a metered device fail, what it counts, and how each call changes it.
use Rattle.std.specs.Prelude.{◌≡◌, ℕ, ◌+◌, ◌-◌, ◌==◌, ◌||◌, ◌⊎◌, is_some, Bool, true, false, Option, Some, None, Result}
use Rattle.std.specs.Prelude.{Ok, Err, if◌then◌else◌}
use Rattle.lk_disk.specs.Disk.{one_more}
use Rattle.lk_disk.specs.Traps.{is_due, fails_next, stops_next, trap_after, armed_for}
use Rattle.lk_disk.specs.declared.meter.Meter.{Meter}
use Rattle.lk_disk.specs.declared.trap.Trap.{Trap}
use Rattle.lk_disk.specs.declared.trap.Trap.TheVariants.{Off}

-- nothing makes the device fail, and no call was made
abbrev pub fresh : Meter
fresh = record { trap = Off; fuse = None; unread = 0; calls = 0; sprung = false; starved = false }

-- ---- changing calls: an append, a sync, a cut

-- the fuse lets no more changing calls succeed
abbrev pub is_blown : Option ℕ → Bool
is_blown None = false
is_blown (Some left) = left == 0

-- the fuse after the next changing call
abbrev pub fuse_after : Option ℕ → Option ℕ
fuse_after None = None
fuse_after (Some left) = Some (left - 1)

-- the fuse after the next changing call, which blows it if it is an armed stop
abbrev pub fuse_at : Option ℕ → Option ℕ → Option ℕ
fuse_at None fuse = fuse_after fuse
fuse_at (Some bytes) fuse = Some 0

-- the next changing call fails and changes nothing, by the trap or by the fuse
abbrev pub is_refused : Meter → Bool
is_refused m = fails_next m.trap || is_blown m.fuse

-- the next changing call fails: by the trap, by the fuse, or at an armed stop
abbrev pub is_failing : Meter → Bool
is_failing m = is_refused m || is_some (stops_next m.trap)

-- a changing call is counted, whatever its result
abbrev pub called : Meter → Meter
called m = record m {
  trap = trap_after m.trap;
  fuse = fuse_at (stops_next m.trap) m.fuse;
  calls = one_more m.calls;
  sprung = m.sprung || is_due m.trap;
}

-- a changing call is counted, and ran out of memory
abbrev pub starving : Meter → Meter
starving m = record (called m) { starved = true }

-- a changing call succeeded, or it failed: by the trap, the fuse, or an armed stop, or for want of memory
abbrev pub Calls : {T E : Type 0} → Meter → Meter → Result T E → Type 0
Calls m n (Ok _) = (is_failing m ≡ false) × (n ≡ called m)
Calls m n (Err _) = ((is_failing m ≡ true) × (n ≡ called m)) ⊎ (n ≡ starving m)

-- ---- reading calls

-- the next reading call fails
abbrev pub is_unread : Meter → Bool
is_unread m = m.unread == 1

-- a reading call is counted, whatever its result
abbrev pub asked : Meter → Meter
asked m = record m { unread = m.unread - 1 }

-- a reading call within the disk succeeded, or it had to fail
abbrev pub Reads : {T E : Type 0} → Meter → Meter → Result T E → Type 0
Reads m n (Ok _) = (is_unread m ≡ false) × (n ≡ asked m)
Reads m n (Err _) = (is_unread m ≡ true) × (n ≡ asked m)

-- ---- calls in a row

-- this many changing calls were made, besides reading ones, and all of them succeeded
pub data CallsSucceed (m : Meter) : Meter → ℕ → Type 0 where
  start : CallsSucceed m m 0
  call : {n : Meter} {k : ℕ} → CallsSucceed m n k → is_failing n ≡ false → CallsSucceed m (called n) (k + 1)
  read : {n : Meter} {k : ℕ} → CallsSucceed m n k → is_unread n ≡ false → CallsSucceed m (asked n) k

-- such calls succeeded, and the next one failed: a changing one as it had to, or for want of memory, or a reading one
-- as it had to
pub record Breaks (m n : Meter) : Type 0 where
  pub count : ℕ
  pub last : Meter
  pub calls_succeed : CallsSucceed m last count
  pub broke : ((is_failing last ≡ true) × (n ≡ called last)) ⊎ (n ≡ starving last)
      ⊎ ((is_unread last ≡ true) × (n ≡ asked last))

-- ---- the trap

-- a trap is set, in place of a pending one
abbrev pub trapped : Trap → Meter → Meter
trapped t m = record m { trap = t; sprung = false; starved = false }

-- the trap and the fuse are gone
abbrev pub disarmed : Meter → Meter
disarmed m = record m { trap = Off; fuse = None }

-- how many unsynced bytes the armed stop is to keep, if it was reached: each later changing call fails
abbrev pub stopping : Meter → Option ℕ
stopping m = if m.sprung then armed_for m.trap else None
