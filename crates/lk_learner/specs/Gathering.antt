-- Snapshots of other nodes, gathered part by part.
use Rattle.std.specs.Prelude.{◌≤◌, ℕ, Bool, true, false, ◌==◌, ◌&&◌, if◌then◌else◌, nat_lt, List, [], ◌++◌, length}
use Rattle.std.specs.Prelude.{Option, Some, None}
use Rattle.lk_types.specs.Limits.{max_base}
use Rattle.lk_messages.specs.Values.{PartValue}
use Rattle.lk_learner.specs.Learners.{GatheredValue}

-- the invariant: at most one text is gathered, and no more of it than there is
pub record IsGathered (g : GatheredValue) : Type 0 where
  pub room : g.total ≤ max_base
  pub within : length g.bytes ≤ g.total

-- the bytes of the part, if it is the first one
abbrev pub first_bytes : PartValue → List ℕ
first_bytes p = if p.offset == 0 then p.bytes else []

-- what is gathered with this part as its start: nothing yet, if the part is not the first one
abbrev pub first_gathered : PartValue → GatheredValue
first_gathered p = record { position = p.position; total = p.total; bytes = first_bytes p }

-- the part is one of the same snapshot: its total agrees, and it continues the gathered bytes
abbrev pub goes_on : GatheredValue → PartValue → Bool
goes_on g p = (p.position == g.position) && ((p.total == g.total) && (p.offset == length g.bytes))

-- what is gathered with this part: it is appended if it continues the gathered bytes
abbrev pub with_next : GatheredValue → PartValue → GatheredValue
with_next g p = if goes_on g p then record { position = g.position; total = g.total; bytes = g.bytes ++ p.bytes } else g

-- the part is of a snapshot above that which is gathered, if any is
abbrev pub starts_text : Option GatheredValue → PartValue → Bool
starts_text None p = true
starts_text (Some g) p = nat_lt g.position p.position

-- it continues what is gathered, if anything is
abbrev pub goes_on_any : Option GatheredValue → PartValue → Bool
goes_on_any None p = false
goes_on_any (Some g) p = goes_on g p

-- the part is appended to what is gathered, if anything is
abbrev pub with_next_any : Option GatheredValue → PartValue → Option GatheredValue
with_next_any None p = None
with_next_any (Some g) p = Some (with_next g p)

-- what is gathered after a part, given how many positions are executed: a part at an executed position is dropped, one
-- at a greater position than that of the gathered text starts afresh, and any other continues the text or is dropped
abbrev pub heard : ℕ → Option GatheredValue → PartValue → Option GatheredValue
heard executed g p =
    if nat_lt executed p.position then (if starts_text g p then Some (first_gathered p) else with_next_any g p) else g

-- the part can be used: it is at a position that is not executed, and begins a text or continues the gathered one
abbrev pub is_usable : ℕ → Option GatheredValue → PartValue → Bool
is_usable executed g p = nat_lt executed p.position && (if starts_text g p then p.offset == 0 else goes_on_any g p)
