-- Votes whose positions rise.
use Rattle.std.proofs.Common.{◌≡◌, ℕ, ◌+◌, ◌-◌, ◌*◌, ◌<◌, ◌≤◌, Bool, true, false, ltb, eqb, leb, nat_lt, nat_le, inl}
use Rattle.std.proofs.Common.{inr, List, [], ◌∷◌, length, Contains, filter, refl, subst, arith}
use Rattle.std.proofs.lemmas.Bool.{and_parts, and_from, cases_Bool, ltb-true, ltb-false, lt-ltb, leb-true, le-leb}
use Rattle.std.proofs.lemmas.Bool.{eqb-true}
use Rattle.std.proofs.lemmas.Bool.Decides.{nat_tests}
use Rattle.lk_types.specs.Ballots.{is_below}
use Rattle.lk_types.specs.declared.vote.Vote.{Vote}
use Rattle.lk_types.specs.Votes.{are_votes_above}
use Rattle.lk_messages.specs.Values.{are_votes_from}
use Rattle.lk_agreement_laws.proofs.Histories.{cons_cases, contains_more, filter_from, filter_passes_at}
use Rattle.lk_store_format.specs.VoteLists.{votes_with}
use Rattle.lk_store_format.proofs.VoteParts.{rising_parts}
use Rattle.lk_acceptor.specs.VoteLists.{votes_from, votes_above}

pub first : (x : Vote) (xs : List Vote) → Contains (x ∷ xs) x
first x xs = (0, omega arith, refl)

pub rising_from : (low : ℕ) (v : Vote) (vs : List Vote) → low < v.position → are_votes_above v.position vs ≡ true
    → are_votes_above low (v ∷ vs) ≡ true
rising_from low v vs less e =
    and_from (ltb low v.position) (are_votes_above v.position vs) (lt-ltb low v.position less) e

-- each is above where they rise from
pub rising_all : (low : ℕ) (vs : List Vote) → are_votes_above low vs ≡ true → (v : Vote)
    → Contains vs v → low < v.position
rising_all low [] e v h = absurd (omega (arith, h.1))
rising_all low (w ∷ ws) e v h =
    let b = rising_parts low w ws e in
    elim (cons_cases w ws v h) [
      | inl same ↦ subst (λ (x : Vote). low < x.position) same b.0
      | inr later ↦ (let k = rising_all w.position ws b.1 v later in omega arith)
    ]

-- they rise from wherever all of them are above
pub rising_above : (low high : ℕ) (vs : List Vote) → are_votes_above low vs ≡ true
    → ((v : Vote) → Contains vs v → high < v.position) → are_votes_above high vs ≡ true
rising_above low high [] e all = refl
rising_above low high (v ∷ vs) e all = rising_from high v vs (all v (first v vs)) (rising_parts low v vs e).1

-- some of them rise too
pub rising_filter : (p : Vote → Bool) (low : ℕ) (vs : List Vote) → are_votes_above low vs ≡ true
    → are_votes_above low (filter p vs) ≡ true
rising_filter p low [] e = refl
rising_filter p low (v ∷ vs) e =
    let b = rising_parts low v vs e in
    elim (cases_Bool (p v)) [
      | inl yes' ↦ rw yes' (rising_from low v (filter p vs) b.0 (rising_filter p v.position vs b.1))
      | inr no' ↦ rw no' (rising_filter p low vs
          (rising_above v.position low vs b.1 (λ w h. let k = rising_all v.position vs b.1 w h in omega arith)))
    ]

-- there are no more of them than positions
pub rising_count : (low n : ℕ) (vs : List Vote) → are_votes_above low vs ≡ true
    → ((v : Vote) → Contains vs v → v.position ≤ low + n) → length vs ≤ n
rising_count low n [] e all = omega arith
rising_count low n (v ∷ vs) e all =
    let b = rising_parts low v vs e in
    let here = all v (first v vs) in
    let rest : length vs ≤ low + n - v.position =
    rising_count v.position (low + n - v.position) vs b.1
    (λ w h. let k = all w (contains_more v vs w h) in omega (arith, k, here)) in
    omega (arith, rest, here, b.0)

-- ---- the votes from a position on, and those above one

pub from_is_from : (i : ℕ) (vs : List Vote) (v : Vote) → Contains (votes_from i vs) v → i ≤ v.position
from_is_from i vs v h = leb-true i v.position (filter_passes_at (λ (w : Vote). nat_le i w.position) vs v h)

above_is_above : (i : ℕ) (vs : List Vote) (v : Vote) → Contains (votes_above i vs) v → i < v.position
above_is_above i vs v h = ltb-true i v.position (filter_passes_at (λ (w : Vote). nat_lt i w.position) vs v h)

pub above_rises : (low i : ℕ) (vs : List Vote) → are_votes_above low vs ≡ true
    → are_votes_above i (votes_above i vs) ≡ true
above_rises low i vs e =
    rising_above low i (votes_above i vs)
    (rising_filter (λ (w : Vote). nat_lt i w.position) low vs e) (above_is_above i vs)

from_rises : (low i : ℕ) (vs : List Vote) → 1 ≤ i → are_votes_above low vs ≡ true
    → are_votes_above (i - 1) (votes_from i vs) ≡ true
from_rises low i vs some e =
    rising_above low (i - 1) (votes_from i vs) (rising_filter (λ (w : Vote). nat_le i w.position) low vs e)
    (λ v h. let k = from_is_from i vs v h in omega arith)

-- the votes from a position on that lie near it are at most twice alpha
pub from_are_few : (low i alpha : ℕ) (vs : List Vote) → 1 ≤ i → are_votes_above low vs ≡ true
    → ((v : Vote) → Contains vs v → v.position < i + 2 * alpha) → length (votes_from i vs) ≤ 2 * alpha
from_are_few low i alpha vs some e near =
    rising_count (i - 1) (2 * alpha) (votes_from i vs) (from_rises low i vs some e)
    (λ v h. let k = near v (filter_from (λ (w : Vote). nat_le i w.position) vs v h) in omega arith)

-- so they fit into a promise
pub from_fits : (low i alpha : ℕ) (vs : List Vote) → 1 ≤ i → alpha ≤ 64 → are_votes_above low vs ≡ true
    → ((v : Vote) → Contains vs v → v.position < i + 2 * alpha) → are_votes_from i (votes_from i vs) ≡ true
from_fits low i alpha vs some small e near =
    let count : length (votes_from i vs) ≤ 2 * alpha = from_are_few low i alpha vs some e near in
    and_from (leb (length (votes_from i vs)) 128) (are_votes_above (i - 1) (votes_from i vs))
    (le-leb _ _ (omega arith)) (from_rises low i vs some e)

-- ---- the votes with one more

pub rising_with : (low : ℕ) (v : Vote) (vs : List Vote) → are_votes_above low vs ≡ true → low < v.position
    → are_votes_above low (votes_with v vs) ≡ true
rising_with low v [] e less = rising_from low v [] less refl
rising_with low v (w ∷ ws) e less =
    let b = rising_parts low w ws e in
    elim (cases_Bool (ltb w.position v.position)) [
      | inl before ↦ rw before
          (rising_from low w (votes_with v ws) b.0
          (rising_with w.position v ws b.1 (ltb-true w.position v.position before)))
      | inr behind ↦ elim (cases_Bool (eqb w.position v.position)) [
        | inl same ↦
            let at : w.position ≡ v.position = eqb-true w.position v.position same in
            elim (cases_Bool (is_below w.ballot v.ballot)) [
              | inl below ↦ rw (behind, same, below)
                  (rising_from low v ws less (subst (λ (p : ℕ). are_votes_above p ws ≡ true) at b.1))
              | inr above ↦ rw (behind, same, above) (rising_from low w ws b.0 b.1)
            ]
        | inr differs ↦
            let le = ltb-false w.position v.position behind in
            rw (behind, differs) (rising_from low v (w ∷ ws) less
            (rising_from v.position w ws (apart w.position v.position le differs) b.1))
      ]
    ]
  where
    apart : (i j : ℕ) → j ≤ i → eqb i j ≡ false → j < i
    apart i j le ne = grind (arith, nat_tests)
