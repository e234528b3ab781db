-- The Base at the start of entries.
use Rattle.std.specs.Prelude.{ℕ, Bool, true, false, List, [], ◌∷◌}
use Rattle.lk_store_format.specs.declared.stored.Stored.{Stored}
use Rattle.lk_store_format.specs.declared.stored.Stored.TheVariants.{Base, Plain}

abbrev pub has_base : List Stored → Bool
has_base [] = false
has_base (Base b ∷ es) = true
has_base (Plain e ∷ es) = has_base es

-- the first entry is no Base, or a later one is
abbrev pub is_misplaced : List Stored → Bool
is_misplaced [] = false
is_misplaced (Base b ∷ es) = has_base es
is_misplaced (Plain e ∷ es) = true

-- the generation of the Base at the start, at least 1; 0 if there is none
abbrev pub generation : List Stored → ℕ
generation [] = 0
generation (Base b ∷ es) = b.generation
generation (Plain e ∷ es) = 0
