-- Decided pairs in order of their positions.
pub use Rattle.lk_agreement_laws.specs.Chosen.{Command}
pub use Rattle.lk_agreement_laws.specs.Nodes.{Pair}
use Rattle.std.specs.Prelude.{ℕ, ◌+◌, ◌*◌, ◌≤◌, Bool, true, not, ◌==◌, nat_lt, ◌&&◌, if◌then◌else◌, List, [], ◌∷◌}
use Rattle.std.specs.Prelude.{filter, Contains, IsTrue}

-- the positions rise strictly, the first above low
abbrev pub are_pairs_above : ℕ → List Pair → Bool
are_pairs_above low [] = true
are_pairs_above low (p ∷ ps) = nat_lt low p.0 && are_pairs_above p.0 ps

-- given how many positions are executed: one pair a position, in order, each of the next ones up to twice alpha
pub record AreKept (executed alpha : ℕ) (pairs : List Pair) : Type 0 where
  pub rising : IsTrue (are_pairs_above executed pairs)
  pub near : (p : Pair) → Contains pairs p → p.0 ≤ executed + 2 * alpha

-- the pairs with one of another position, in its place
abbrev pub with_pair : Pair → List Pair → List Pair
with_pair p [] = p ∷ []
with_pair p (q ∷ qs) = if nat_lt q.0 p.0 then q ∷ with_pair p qs else p ∷ q ∷ qs

-- all pairs but that of the position
abbrev pub without : ℕ → List Pair → List Pair
without i = filter (λ p. not (p.0 == i))
