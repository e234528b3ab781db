-- Which lists of members are valid sets.
use Rattle.std.specs.Prelude.{ℕ, ◌≤◌, Bool, true, nat_lt, ◌&&◌, List, [], ◌∷◌, length, IsTrue}
use Rattle.lk_types.specs.Limits.{max_members}
use Rattle.lk_types.specs.Ranges.{IsNode, IsPort}
use Rattle.lk_types.specs.declared.member.Member.{Member}

-- a member in its ranges
abbrev pub IsMember : Member → Type 0
IsMember m = IsNode m.node × IsPort m.port

-- each node is above the one before, the first above low
abbrev pub members_rise : ℕ → List Member → Bool
members_rise low [] = true
members_rise low (m ∷ ms) = nat_lt low m.node && members_rise m.node ms

-- 1 to 7 members, rising by node
abbrev pub AreMembers : List Member → Type 0
AreMembers ms = (1 ≤ length ms) × (length ms ≤ max_members) × IsTrue (members_rise 0 ms)
