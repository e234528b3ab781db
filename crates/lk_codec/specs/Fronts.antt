-- Two contracts: of a parser, which reads from the start of some bytes, and of a writer, which keeps the old bytes.
use Rattle.std.specs.Prelude.{◌≡◌, ℕ, List, ◌++◌, length, take, Option, IfSome, IsSomeAnd}

-- What a parser returns, of which `shown` is a value and the bytes after it. found: the value is valid, and the bytes
-- start with its spelling. only: if the bytes start with the spelling of a valid value, that value is returned.
pub record ReadsFront {X Y : Type 0} (shown : Y → X × List ℕ) (spelling : X → List ℕ) (Fits : X → Type 0)
    (bytes : List ℕ) (result : Option Y) : Type 0 where
  pub found : IfSome result (λ y. Fits (shown y).0 × (bytes ≡ spelling (shown y).0 ++ (shown y).1))
  pub only : (x : X) (rest : List ℕ) → Fits x → bytes ≡ spelling x ++ rest → IsSomeAnd result (λ y. shown y ≡ (x, rest))

-- The old bytes are a prefix of the new ones.
pub record KeepsFront (old new : List ℕ) : Type 0 where
  pub front : take (length old) new ≡ old
