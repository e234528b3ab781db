-- Who holds a name.
use Rattle.std.specs.Prelude.{ℕ, Bool, true, false, ◌==◌, List, [], ◌∷◌, Option, Some, None, if◌then◌else◌}
use Rattle.lk_types.specs.Ranges.{IsClient}
use Rattle.lk_locks.specs.Sharers.{AreSharers, is_among, without}
use Rattle.lk_locks.specs.declared.lock_entry.Holders.{Holders}
use Rattle.lk_locks.specs.declared.lock_entry.Holders.TheVariants.{Nobody, ExclusiveHold, SharedHold}

abbrev pub IsHolders : Holders → Type 0
IsHolders Nobody = Unit {0}
IsHolders (ExclusiveHold client) = IsClient client
IsHolders (SharedHold clients) = AreSharers clients

abbrev pub is_held : Holders → Bool
is_held Nobody = false
is_held (ExclusiveHold client) = true
is_held (SharedHold clients) = true

-- whether a table may have these holders: one that was not raised has no shared name
abbrev pub is_kept : Bool → Holders → Bool
is_kept raised Nobody = true
is_kept raised (ExclusiveHold client) = true
is_kept raised (SharedHold clients) = raised

-- these clients hold it together, or nobody does
abbrev pub held_by : List ℕ → Holders
held_by [] = Nobody
held_by (c ∷ cs) = SharedHold (c ∷ cs)

-- who holds it after the client has left; none if the client does not hold it
abbrev pub left_by : ℕ → Holders → Option Holders
left_by client Nobody = None
left_by client (ExclusiveHold holder) = if holder == client then Some Nobody else None
left_by client (SharedHold clients) = if is_among client clients then Some (held_by (without client clients)) else None
