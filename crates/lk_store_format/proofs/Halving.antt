-- A place in a list of rising keys is found by halving.
use Rattle.std.proofs.Common.{◌≡◌, ℕ, zero, suc, ◌<◌, ◌≤◌, Bool, true, false, nat_lt, List, [], ◌∷◌, length, get_or}
use Rattle.std.proofs.Common.{refl, ap, arith}
use Rattle.std.specs.List.Sorted.{IsNonDecreasingBy, IsPartitionPoint}
use Rattle.lk_types.specs.declared.command.Command.{Command}
use Rattle.lk_store_format.specs.Entries.{are_pairs_above}
use Rattle.lk_store_format.specs.Standings.{ArePairsRising, below}
use Rattle.lk_store_format.proofs.InOrder.{pairs_low}

module _ {A : Type 0} (key : A → ℕ) (rise : ℕ → List A → Bool)
    (parts : (low : ℕ) (x : A) (xs : List A) → rise low (x ∷ xs) ≡ true
    → (low < key x) × (rise (key x) xs ≡ true)) where
  all_above : (low : ℕ) (xs : List A) → rise low xs ≡ true → (k : ℕ) (d : A) → k < length xs → low < key (get_or xs k d)
  all_above low [] e k d short = absurd (omega arith)
  all_above low (x ∷ xs) e zero d short = (parts low x xs e).0
  all_above low (x ∷ xs) e (suc k) d short =
      let b = parts low x xs e in
      omega (arith, b.0, all_above (key x) xs b.1 k d (omega arith))

  never_fall : (low : ℕ) (xs : List A) → rise low xs ≡ true → IsNonDecreasingBy key xs
  never_fall low [] e i j d le short = absurd (omega arith)
  never_fall low (x ∷ xs) e zero zero d le short = omega arith
  never_fall low (x ∷ xs) e zero (suc j) d le short =
      omega (arith, all_above (key x) xs (parts low x xs e).1 j d (omega arith))
  never_fall low (x ∷ xs) e (suc i) zero d le short = absurd (omega arith)
  never_fall low (x ∷ xs) e (suc i) (suc j) d le short =
      never_fall (key x) xs (parts low x xs e).1 i j d (omega arith) (omega arith)

pub pairs_rise : (ps : List (ℕ × Command)) → ArePairsRising ps → IsNonDecreasingBy (λ (p : ℕ × Command). p.0) ps
pairs_rise ps rising = never_fall (λ (p : ℕ × Command). p.0) are_pairs_above pairs_low rising.0 ps rising.1

-- where those in front are below and the next one is not, so many are below
module _ {A : Type 0} (key : A → ℕ) (i : ℕ) where
  counted : (n : ℕ) (xs : List A) → n ≤ length xs → ((k : ℕ) (d : A) → k < n → nat_lt (key (get_or xs k d)) i ≡ true)
      → ((d : A) → n < length xs → nat_lt (key (get_or xs n d)) i ≡ false) → n ≡ below key i xs
  counted n [] le before after = omega arith
  counted zero (x ∷ xs) le before after = let no' = after x (omega arith) in rw no' refl
  counted (suc n) (x ∷ xs) le before after =
      let yes' = before 0 x (omega arith) in
      rw yes' (ap suc (counted n xs (omega arith) (λ k d short. before (suc k) d (omega arith))
      (λ d short. after d (omega arith))))

  pub point_is_below : (n : ℕ) (xs : List A)
      → IsPartitionPoint (λ (x : A). nat_lt (key x) i ≡ true) (λ (x : A). nat_lt (key x) i ≡ false) xs n
      → n ≤ length xs → n ≡ below key i xs
  point_is_below n xs point le =
      counted n xs le (λ k d short. point.0 k d (omega arith) short) (λ d short. point.1 n d (omega arith) short)
