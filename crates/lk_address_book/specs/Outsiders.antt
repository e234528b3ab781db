-- Outsiders: nodes whose numbers never joined. Which of their datagrams a node drops.
use Rattle.std.specs.Prelude.{ℕ, Bool, true, false, ◌==◌, ◌&&◌, nat_lt, if◌then◌else◌, List, [], ◌∷◌, get_or}
use Rattle.std.specs.Int.{w32, from_be_bytes}

-- it begins as a Want does, with the letters LK, and has its kind
abbrev pub is_want : List ℕ → Bool
is_want (l ∷ k ∷ v ∷ kind ∷ rest) = if l == 76 then (if k == 75 then kind == 7 else false) else false
is_want _ = false

-- the node that a message names as its sender: four bytes at offset 12. A byte that is not there counts as 0
abbrev pub sender_in : List ℕ → ℕ
sender_in d = from_be_bytes w32 (get_or d 12 0 ∷ get_or d 13 0 ∷ get_or d 14 0 ∷ get_or d 15 0 ∷ [])

-- it is a Want of an outsider: of a number above the greatest that has joined. A join needs a number above all before
-- it, so none of those has joined
abbrev pub is_outsiders_want : ℕ → List ℕ → Bool
is_outsiders_want joined d = is_want d && nat_lt joined (sender_in d)

-- there is no key
abbrev pub has_none : List (List ℕ) → Bool
has_none [] = true
has_none (key ∷ keys) = false
