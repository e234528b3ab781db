-- The sets of members of the next positions, the nearest first.
use Rattle.std.specs.Prelude.{◌≡◌, ℕ, ◌-◌, ◌<◌, ◌≤◌, Bool, nat_le, List, [], length, slice_index_or}
use Rattle.std.specs.List.{AllByRecursion, list_all}
use Rattle.lk_types.specs.Limits.{max_window}
use Rattle.lk_types.specs.Rosters.{AreMembers, IsMember}
use Rattle.lk_types.specs.declared.member.Member.{Member}

-- 1 to 7 members in their ranges, rising by node
abbrev pub IsSet : List Member → Type 0
IsSet set = AreMembers set × AllByRecursion IsMember set

-- at most 64 sets
abbrev pub IsWindow : List (List Member) → Type 0
IsWindow sets = (length sets ≤ max_window) × AllByRecursion IsSet sets

-- the set of the last position that the roster knows
abbrev pub newest : List (List Member) → List Member
newest sets = slice_index_or sets (length sets - 1) []

-- all sets are the same
abbrev pub AreAlike : List (List Member) → Type 0
AreAlike sets = (k : ℕ) → k < length sets → slice_index_or sets k [] ≡ newest sets

-- every node of the sets is at most this number
abbrev pub are_at_most : ℕ → List (List Member) → Bool
are_at_most greatest sets = list_all (λ set. list_all (λ m. nat_le m.node greatest) set) sets
