-- Words without a given byte, and digits without a sign or leading zeros.
use Rattle.std.specs.Prelude.{◌≡◌, ◌==◌, ◌&&◌, not, ℕ, Bool, List, [], ◌∷◌, false}
use Rattle.std.specs.List.{list_any}

-- it does not have this byte
abbrev pub HasNo : ℕ → List ℕ → Type 0
HasNo sign text = list_any (λ b. b == sign) text ≡ false

-- no byte of it is a space
abbrev pub HasNoSpace : List ℕ → Type 0
HasNoSpace word = HasNo 32 word

-- it has a byte and begins with no plus, and with no zero unless that is the only byte
abbrev pub is_plain : List ℕ → Bool
is_plain [] = false
is_plain (b ∷ []) = not (b == 43)
is_plain (b ∷ c ∷ rest) = not (b == 43) && not (b == 48)
