-- What a lock table says of a name, and which client holds it.
use Rattle.std.specs.Prelude.{ℕ, Bool, false, ◌==◌, List, length, Option, Some, None}
use Rattle.std.specs.FinMap as map
use Rattle.lk_locks.specs.Plain.{Table}
use Rattle.lk_locks.specs.Sharers.{is_among}
use Rattle.lk_locks.specs.declared.lock_entry.Holders.{Holders}
use Rattle.lk_locks.specs.declared.lock_entry.Holders.TheVariants.{Nobody, ExclusiveHold, SharedHold}
use Rattle.lk_locks.specs.declared.lock_entry.LockEntry.{LockEntry}
use Rattle.lk_watch.specs.declared.standing.Standing.{Standing}
use Rattle.lk_watch.specs.declared.standing.Standing.TheVariants as standing

-- what a lock entry with this last fence and these holders says
abbrev pub standing_at : ℕ → Holders → Standing
standing_at fence Nobody = standing.Free fence
standing_at fence (ExclusiveHold client) = standing.ExclusiveHold fence
standing_at fence (SharedHold clients) = standing.SharedHold fence (length clients)

abbrev pub standing_of : Option LockEntry → Standing
standing_of None = standing.Free 0
standing_of (Some s) = standing_at s.fence s.holders

-- what a table says of a name
abbrev pub standing_in : Table → List ℕ → Standing
standing_in t name = standing_of (map.get t.names name)

-- whether the client is one of the holders
abbrev pub is_holder : ℕ → Holders → Bool
is_holder client Nobody = false
is_holder client (ExclusiveHold holder) = holder == client
is_holder client (SharedHold clients) = is_among client clients

abbrev pub is_holder_of : ℕ → Option LockEntry → Bool
is_holder_of client None = false
is_holder_of client (Some s) = is_holder client s.holders

-- whether a client holds a name by a table
abbrev pub holds_in : Table → ℕ → List ℕ → Bool
holds_in t client name = is_holder_of client (map.get t.names name)
