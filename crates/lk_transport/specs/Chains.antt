-- Chains of states, in which each state follows from the one before it by a relation.
use Rattle.std.specs.Prelude.{◌≡◌, ℕ, List, [], ◌∷◌, length}

-- these states follow one another: each follows from the one before it by this relation, and this is the last
abbrev pub Chain : {S : Type 0} → (S → S → Type 0) → S → List S → S → Type 0
Chain R first [] last = last ≡ first
Chain R first (next ∷ states) last = R first next × Chain R next states last

-- the relation leads from the first state to the last in this many steps
pub record Repeats {S : Type 0} (R : S → S → Type 0) (count : ℕ) (first last : S) : Type 0 where
  pub states : List S
  pub are : length states ≡ count
  pub chain : Chain R first states last
