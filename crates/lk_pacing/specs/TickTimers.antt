-- How the 100 ms between two ticks are counted.
use Rattle.std.specs.Prelude.{◌≡◌, ◌≤◌, ◌<◌, ◌-◌, ℕ, Bool, true, false, Option, Some, None}
use Rattle.std.specs.Time.{instant_nanos}
use Rattle.std.specs.declared.time.Instant.{Instant}

-- when the current period of 100 ms began: `now` if none has begun
abbrev pub period_start : Instant → Option Instant → Instant
period_start now None = now
period_start now (Some period_from) = period_from

-- how many nanoseconds of the period have passed at `now`
abbrev pub spent : Instant → Option Instant → ℕ
spent now period_from = instant_nanos now - instant_nanos (period_start now period_from)

-- this many nanoseconds of the period are left at this reading of the clock, `None` if it failed: then all are left,
-- and nothing changes. `old` and `new` are the start of the period before and after
abbrev pub LeavesAt : Option Instant → Option Instant → Option Instant → ℕ → Type 0
LeavesAt None old new left = (left ≡ 100000000) × (new ≡ old)
LeavesAt (Some now) old new left = (left ≡ 100000000 - spent now old) × (new ≡ Some (period_start now old))

-- the same for some reading
abbrev pub Leaves : Option Instant → Option Instant → ℕ → Type 0
Leaves old new left = (reading : Option Instant) × LeavesAt reading old new left

-- whether the period has ended at this reading, where the next one then begins; if the clock failed it has, and nothing
-- changes
abbrev pub ElapsesAt : Option Instant → Option Instant → Option Instant → Bool → Type 0
ElapsesAt None old new elapsed = (elapsed ≡ true) × (new ≡ old)
ElapsesAt (Some now) old new true = (100000000 ≤ spent now old) × (new ≡ Some now)
ElapsesAt (Some now) old new false = (spent now old < 100000000) × (new ≡ Some (period_start now old))

-- the same for some reading
abbrev pub Elapses : Option Instant → Option Instant → Bool → Type 0
Elapses old new elapsed = (reading : Option Instant) × ElapsesAt reading old new elapsed
