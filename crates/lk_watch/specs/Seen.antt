-- What a queue is shown of a lock table: all of it, or only some names.
use Rattle.std.specs.Prelude.{ℕ, Bool, false, nat_eq, nat_lt, List, map, slice_get, Option, Some, None}
use Rattle.std.specs.Cmp.Lexicographic.{pointwise}
use Rattle.std.specs.FinMap as names
use Rattle.std.specs.List.{list_any, position_or_len}
use Rattle.lk_locks.specs.Plain.{Table}
use Rattle.lk_watch.specs.Standings.{places}
use Rattle.lk_watch.specs.Tables.{standing_of, standing_in, is_holder_of, holds_in}
use Rattle.lk_watch.specs.declared.seen.SeenName.{SeenName}
use Rattle.lk_watch.specs.declared.standing.Standing.{Standing}
use Rattle.lk_watch.specs.declared.standing.Standing.TheVariants as standing
use Rattle.lk_watch.specs.declared.ticket.Mode.TheVariants.{Share}

-- what a table says of a name, as it is shown
abbrev pub seen_of : Table → List ℕ → SeenName
seen_of table name = record { name = name; lock_entry = names.get table.names name }

-- the same of these names
abbrev pub seen_in : Table → List (List ℕ) → List SeenName
seen_in table shown = map (seen_of table) shown

abbrev pub is_seen : List ℕ → SeenName → Bool
is_seen name s = pointwise nat_eq s.name name

-- what is shown of a name
abbrev pub seen_at : List SeenName → List ℕ → Option SeenName
seen_at seen name = slice_get seen (position_or_len (is_seen name) seen)

-- a name that is not shown counts as held, so nobody is told that it is free
abbrev pub standing_shown : Option SeenName → Standing
standing_shown None = standing.ExclusiveHold 0
standing_shown (Some s) = standing_of s.lock_entry

abbrev pub standing_seen : List SeenName → List ℕ → Standing
standing_seen seen name = standing_shown (seen_at seen name)

-- nobody who waits for it was granted it
abbrev pub holds_shown : ℕ → Option SeenName → Bool
holds_shown client None = false
holds_shown client (Some s) = is_holder_of client s.lock_entry

abbrev pub holds_seen : List SeenName → ℕ → List ℕ → Bool
holds_seen seen client name = holds_shown client (seen_at seen name)

-- whether a client holds one of the names that are shown
abbrev pub holds_some : ℕ → List SeenName → Bool
holds_some client seen = list_any (λ s. is_holder_of client s.lock_entry) seen

-- whether one of them has a place: where an exclusive client has one, a sharer has too
abbrev pub some_open : List SeenName → Bool
some_open seen = list_any (λ s. nat_lt 0 (places Share (standing_of s.lock_entry))) seen

-- what a queue is told of the names: by all of the table, or by what it is shown
abbrev pub standing_by : Table → Option (List SeenName) → List ℕ → Standing
standing_by table None = standing_in table
standing_by table (Some seen) = standing_seen seen

abbrev pub holds_by : Table → Option (List SeenName) → ℕ → List ℕ → Bool
holds_by table None = holds_in table
holds_by table (Some seen) = holds_seen seen
