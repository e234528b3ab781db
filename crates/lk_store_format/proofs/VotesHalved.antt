-- A place among votes whose positions rise is found by halving.
use Rattle.std.proofs.Common.{◌≡◌, ℕ, zero, suc, ◌<◌, ◌≤◌, true, false, ltb, nat_lt, List, [], ◌∷◌, length, get_or}
use Rattle.std.proofs.Common.{refl, ap, arith}
use Rattle.std.specs.List.Sorted.{IsNonDecreasingBy, IsPartitionPoint}
use Rattle.std.proofs.lemmas.Bool.{and_parts, ltb-true}
use Rattle.lk_types.specs.declared.vote.Vote.{Vote}
use Rattle.lk_types.specs.Votes.{are_votes_above}
use Rattle.lk_store_format.specs.VoteLists.{AreRising, count_below}

pub rising_parts : (low : ℕ) (v : Vote) (vs : List Vote) → are_votes_above low (v ∷ vs) ≡ true
    → (low < v.position) × (are_votes_above v.position vs ≡ true)
rising_parts low v vs e = let b = and_parts (ltb low v.position) (are_votes_above v.position vs) e in
    (ltb-true low v.position b.0, b.1)

above : (low : ℕ) (vs : List Vote) → are_votes_above low vs ≡ true → (k : ℕ) (d : Vote) → k < length vs
    → low < (get_or vs k d).position
above low [] e k d short = absurd (omega arith)
above low (v ∷ vs) e zero d short = (rising_parts low v vs e).0
above low (v ∷ vs) e (suc k) d short =
    let b = rising_parts low v vs e in
    omega (arith, b.0, above v.position vs b.1 k d (omega arith))

votes_rise : (low : ℕ) (vs : List Vote) → are_votes_above low vs ≡ true
    → IsNonDecreasingBy (λ (v : Vote). v.position) vs
votes_rise low [] e i j d le short = absurd (omega arith)
votes_rise low (v ∷ vs) e zero zero d le short = omega arith
votes_rise low (v ∷ vs) e zero (suc j) d le short =
    omega (arith, above v.position vs (rising_parts low v vs e).1 j d (omega arith))
votes_rise low (v ∷ vs) e (suc i) zero d le short = absurd (omega arith)
votes_rise low (v ∷ vs) e (suc i) (suc j) d le short =
    votes_rise v.position vs (rising_parts low v vs e).1 i j d (omega arith) (omega arith)

pub rising_votes_rise : (vs : List Vote) → AreRising vs → IsNonDecreasingBy (λ (v : Vote). v.position) vs
rising_votes_rise vs rising = votes_rise rising.0 vs rising.1

counted : (i n : ℕ) (vs : List Vote) → n ≤ length vs
    → ((k : ℕ) (d : Vote) → k < n → nat_lt (get_or vs k d).position i ≡ true)
    → ((d : Vote) → n < length vs → nat_lt (get_or vs n d).position i ≡ false) → n ≡ count_below i vs
counted i n [] le before behind = omega arith
counted i zero (v ∷ vs) le before behind = let no' = behind v (omega arith) in rw no' refl
counted i (suc n) (v ∷ vs) le before behind =
    let yes' = before 0 v (omega arith) in
    rw yes' (ap suc (counted i n vs (omega arith) (λ k d short. before (suc k) d (omega arith))
    (λ d short. behind d (omega arith))))

pub point_is_below : (i n : ℕ) (vs : List Vote)
    → IsPartitionPoint (λ (v : Vote). nat_lt v.position i ≡ true) (λ (v : Vote). nat_lt v.position i ≡ false) vs n
    → n ≤ length vs → n ≡ count_below i vs
point_is_below i n vs point le =
    counted i n vs le (λ k d short. point.0 k d (omega arith) short) (λ d short. point.1 n d (omega arith) short)
