-- What is found out of the 100 ms at a reading of the clock.
use Rattle.std.proofs.Common.{◌≡◌, ◌↔◌, ◌≤◌, Bool, true, false, Option, Some, refl}
use Rattle.std.proofs.Math.Nat.{lt_of_not-le}
use Rattle.std.specs.declared.time.Instant.{Instant}
use Rattle.lk_pacing.specs.TickTimers.{ElapsesAt, period_start, spent}

pub passes_by : (now : Instant) (old new : Option Instant) (elapsed : Bool)
    → ((elapsed ≡ true) ↔ (100000000 ≤ spent now old)) → (elapsed ≡ true → new ≡ Some now)
    → (elapsed ≡ false → new ≡ Some (period_start now old)) → ElapsesAt (Some now) old new elapsed
passes_by now old new true when again goes_on = (when.0 refl, again refl)
passes_by now old new false when again goes_on = (lt_of_not-le (λ over. absurd (cc (when.1 over))), goes_on refl)
