-- How many ticks a node counts, and when it has waited long enough for a leader.
use Rattle.std.specs.Prelude.{ℕ, ◌+◌, ◌*◌, Bool, false, nat_le, Option, Some, None}

-- the first member waits this many ticks for a leader before it begins a ballot, and each further one this many more
-- than the one before it
abbrev pub ticks_a_member : ℕ
ticks_a_member = 4

-- the wait of the last of seven members; no more ticks are counted
abbrev pub max_ticks : ℕ
max_ticks = 28

-- no more ticks are counted
abbrev pub is_full : ℕ → Bool
is_full ticks = nat_le max_ticks ticks

-- how many ticks are enough at this place
abbrev pub is_enough : ℕ → Option ℕ → Bool
is_enough ticks None = false
is_enough ticks (Some index) = nat_le (ticks_a_member + ticks_a_member * index) ticks
