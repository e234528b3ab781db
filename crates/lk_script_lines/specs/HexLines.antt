-- Lines of hex: which bytes a line spells.
use Rattle.std.specs.Prelude.{◌≡◌, ℕ, ◌+◌, ◌*◌, ◌<◌, List, [], ◌∷◌, ◌++◌, replicate}
use Rattle.std.specs.Char.{digit_value}

-- two hex digits, in either case, and the byte that they spell
abbrev pub SpellsByte : ℕ → ℕ → ℕ → Type 0
SpellsByte high low byte =
    (digit_value high < 16) × (digit_value low < 16) × (byte ≡ digit_value high * 16 + digit_value low)

-- a line of one byte or more: two digits each, and any number of spaces between two of them
pub data SpellsBytes : List ℕ → List ℕ → Type 0 where
  one : (high low byte : ℕ) → SpellsByte high low byte → SpellsBytes (high ∷ low ∷ []) (byte ∷ [])
  more : (high low byte spaces : ℕ) (line bytes : List ℕ) → SpellsByte high low byte → SpellsBytes line bytes
      → SpellsBytes (high ∷ low ∷ (replicate spaces 32 ++ line)) (byte ∷ bytes)
