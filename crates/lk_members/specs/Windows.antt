-- The roster after an executed list: the members of the next positions.
use Rattle.std.specs.Prelude.{◌≡◌, ℕ, zero, suc, ◌+◌, ◌≤◌, if◌then◌else◌, List, [], ◌∷◌, ◌++◌, length, drop, IsTrue}
use Rattle.lk_types.specs.Ranges.{IsTotal, IsNode}
use Rattle.lk_members.specs.Effects.{Command}
use Rattle.lk_members.specs.Sets.{IsWindow, newest, are_at_most}
use Rattle.lk_members.specs.Rosters.{Member, Genesis, Op, PlainRoster, roster_answer, next_roster, is_granted, members}
use Rattle.lk_members.specs.Rosters.{roster_of, last_change}

-- how many positions are executed, the sets of the next alpha ones, the greatest number that was ever a member's, and
-- the position of the last granted change, 0 if there is none
pub record RosterValue : Type 0 where
  pub executed : ℕ
  pub sets : List (List Member)
  pub greatest : ℕ
  pub changed : ℕ

-- the sets of members of this many positions, from position i on
abbrev pub sets_from : Genesis → List Command → ℕ → ℕ → List (List Member)
sets_from genesis L i zero = []
sets_from genesis L i (suc n) = members genesis L i ∷ sets_from genesis L (i + 1) n

-- the roster after the list is executed
unfoldable pub roster_after : Genesis → List Command → RosterValue
roster_after genesis L =
    record {
      executed = length L;
      sets = sets_from genesis L (length L + 1) genesis.alpha;
      greatest = (roster_of genesis L).greatest;
      changed = last_change genesis L;
    }

-- the roster is the one after this list
abbrev pub RosterSumsUp : Genesis → List Command → RosterValue → Type 0
RosterSumsUp genesis L roster = roster ≡ roster_after genesis L

abbrev pub newest_roster : RosterValue → PlainRoster
newest_roster v = record { members = newest v.sets; greatest = v.greatest }

-- one position further: the nearest set is dropped, and the members of `r` are appended as the farthest
abbrev pub moved : PlainRoster → ℕ → RosterValue → RosterValue
moved r changed v = record {
  executed = v.executed + 1;
  sets = drop 1 v.sets ++ r.members ∷ [];
  greatest = r.greatest;
  changed = changed;
}

-- one position further without a change
abbrev pub moved_unchanged : RosterValue → RosterValue
moved_unchanged v = moved (newest_roster v) v.changed v

-- one position further with a join or a leave
abbrev pub changed_by : Op → RosterValue → RosterValue
changed_by op v =
    moved (next_roster (newest_roster v) op)
    (if is_granted (roster_answer (newest_roster v) op) then v.executed + 1 else v.changed)
    v

-- what a roster may hold: the greatest number that was ever a member's is at least each node of the sets
pub record IsRoster (v : RosterValue) : Type 0 where
  pub executed : IsTotal v.executed
  pub sets : IsWindow v.sets
  pub some_set : 1 ≤ length v.sets
  pub greatest : IsNode v.greatest
  pub bound : IsTrue (are_at_most v.greatest v.sets)
  pub changed : IsTotal v.changed
