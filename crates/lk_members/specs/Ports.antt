-- Which nodes a window names, and their ports.
use Rattle.std.specs.Prelude.{◌≡◌, ℕ, ◌<◌, Bool, true, false, ◌==◌, min, if◌then◌else◌, Option, Some, None, List, []}
use Rattle.std.specs.Prelude.{◌∷◌}
use Rattle.std.specs.List.{list_any}
use Rattle.lk_members.specs.Rosters.{Member, is_member}

-- some set names the node
abbrev pub is_named : ℕ → List (List Member) → Bool
is_named node sets = list_any (is_member node) sets

-- the port that the set gives the node
abbrev pub port_in : ℕ → List Member → Option ℕ
port_in node [] = None
port_in node (m ∷ ms) = if m.node == node then Some m.port else port_in node ms

-- the port of the node in the first set that names it
abbrev pub port_of : ℕ → List (List Member) → Option ℕ
port_of node [] = None
port_of node (set ∷ sets) = if is_member node set then port_in node set else port_of node sets

-- a port's number, or 0 if there is none
abbrev pub number_or_zero : Option ℕ → ℕ
number_or_zero None = 0
number_or_zero (Some port) = port

-- the least number above this one with the property
pub record IsLeastAbove (is : ℕ → Bool) (low n : ℕ) : Type 0 where
  pub above : low < n
  pub such : is n ≡ true
  pub least : (k : ℕ) → low < k → k < n → is k ≡ false

-- the least one, or none if none above this number has the property
abbrev pub IsNextAbove : (ℕ → Bool) → ℕ → Option ℕ → Type 0
IsNextAbove is low None = (k : ℕ) → low < k → is k ≡ false
IsNextAbove is low (Some n) = IsLeastAbove is low n

-- the lesser of two numbers, the other one if either is none
abbrev pub lesser_of : Option ℕ → Option ℕ → Option ℕ
lesser_of None b = b
lesser_of (Some x) None = Some x
lesser_of (Some x) (Some y) = Some (min x y)

-- those with the property and above this number, each the least above the one before
abbrev pub AreAllAbove : (ℕ → Bool) → ℕ → List ℕ → Type 0
AreAllAbove is low [] = IsNextAbove is low None
AreAllAbove is low (n ∷ ns) = IsNextAbove is low (Some n) × AreAllAbove is n ns
