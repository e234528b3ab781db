-- Pairs whose positions rise: where one is put, what is left without one, and how many there are.
use Rattle.std.proofs.Common.{get_or, ◌≡◌, ◌⊎◌, ◌∙◌, ℕ, zero, suc, ◌+◌, ◌-◌, ◌*◌, ◌<◌, ◌≤◌, true, false, not, eqb}
use Rattle.std.proofs.Common.{nat_lt, Some, filter, List, [], ◌∷◌, length, Contains, refl, ap, sym, subst, inl, inr}
use Rattle.std.proofs.Common.{arith}
use Rattle.std.specs.Prelude.{slice_get, insert, remove}
use Rattle.std.specs.List.{prefix_len}
use Rattle.std.specs.List.Sorted.{IsNonDecreasingBy, IsPartitionPoint}
use Rattle.std.proofs.lemmas.Bool.{and_parts, and_from, cases_Bool, ltb-true, ltb-false, lt-ltb, eqb-true, eqb-false}
use Rattle.std.proofs.lemmas.Bool.{eq-eqb, ne_eqb}
use Rattle.std.proofs.lemmas.List.Sums.{prefix_len-le-length, prefix_len_is}
use Rattle.std.proofs.lemmas.List.Edits.{length-insert}
use Rattle.lk_types.specs.declared.command.Command.TheVariants.{Noop}
use Rattle.lk_agreement_laws.proofs.Histories.{cons_cases, contains_more, filter_from}
use Rattle.lk_learner.specs.Pairs.{Command, Pair, are_pairs_above, AreKept, with_pair, without}

pub first : (p : Pair) (ps : List Pair) → Contains (p ∷ ps) p
first p ps = (0, omega arith, refl)

pub rising_parts : (low : ℕ) (p : Pair) (ps : List Pair) → are_pairs_above low (p ∷ ps) ≡ true
    → (low < p.0) × (are_pairs_above p.0 ps ≡ true)
rising_parts low p ps e = let b = and_parts (nat_lt low p.0) (are_pairs_above p.0 ps) e in (ltb-true low p.0 b.0, b.1)

pub rising_from : (low : ℕ) (p : Pair) (ps : List Pair) → low < p.0 → are_pairs_above p.0 ps ≡ true
    → are_pairs_above low (p ∷ ps) ≡ true
rising_from low p ps less e = and_from (nat_lt low p.0) (are_pairs_above p.0 ps) (lt-ltb low p.0 less) e

-- each is above where they rise from
pub rising_all : (low : ℕ) (ps : List Pair) → are_pairs_above low ps ≡ true → (p : Pair) → Contains ps p → low < p.0
rising_all low [] e p h = absurd (omega (arith, h.1))
rising_all low (q ∷ qs) e p h =
    let b = rising_parts low q qs e in
    elim (cons_cases q qs p h) [
      | inl same ↦ subst (λ (x : Pair). low < x.0) same b.0
      | inr later ↦ (let k = rising_all q.0 qs b.1 p later in omega arith)
    ]

-- there are no more of them than positions
pub rising_count : (low n : ℕ) (ps : List Pair) → are_pairs_above low ps ≡ true
    → ((p : Pair) → Contains ps p → p.0 ≤ low + n) → length ps ≤ n
rising_count low n [] e all = omega arith
rising_count low n (p ∷ ps) e all =
    let b = rising_parts low p ps e in
    let here = all p (first p ps) in
    let rest : length ps ≤ low + n - p.0 =
    rising_count p.0 (low + n - p.0) ps b.1 (λ q h. let k = all q (contains_more p ps q h) in omega (arith, k, here)) in
    omega (arith, rest, here, b.0)

-- ---- the pairs with one more

pub with_has : (p : Pair) (qs : List Pair) → Contains (with_pair p qs) p
with_has p [] = first p []
with_has p (q ∷ qs) =
    elim (cases_Bool (nat_lt q.0 p.0)) [
      | inl before ↦ rw before (contains_more q (with_pair p qs) p (with_has p qs))
      | inr behind ↦ rw behind (first p (q ∷ qs))
    ]

pub with_others : (p : Pair) (qs : List Pair) (r : Pair) → Contains qs r → Contains (with_pair p qs) r
with_others p [] r h = absurd (omega (arith, h.1))
with_others p (q ∷ qs) r h =
    elim (cases_Bool (nat_lt q.0 p.0)) [
      | inl before ↦ elim (cons_cases q qs r h) [
        | inl same ↦ rw before (subst (λ (x : Pair). Contains (q ∷ with_pair p qs) x) same (first q (with_pair p qs)))
        | inr later ↦ rw before (contains_more q (with_pair p qs) r (with_others p qs r later))
      ]
      | inr behind ↦ rw behind (contains_more p (q ∷ qs) r h)
    ]

pub with_only : (p : Pair) (qs : List Pair) (r : Pair) → Contains (with_pair p qs) r → (p ≡ r) ⊎ Contains qs r
with_only p [] r h = cons_cases p [] r h
with_only p (q ∷ qs) r h =
    elim (cases_Bool (nat_lt q.0 p.0)) [
      | inl before ↦ elim (cons_cases q (with_pair p qs) r (rw before at h)) [
        | inl same ↦ inr (subst (λ (x : Pair). Contains (q ∷ qs) x) same (first q qs))
        | inr later ↦ elim (with_only p qs r later) [ inl is ↦ inl is | inr old ↦ inr (contains_more q qs r old) ]
      ]
      | inr behind ↦ cons_cases p (q ∷ qs) r (rw behind at h)
    ]

-- a pair of a position of which none stands leaves them rising
pub rising_with : (low : ℕ) (p : Pair) (qs : List Pair) → are_pairs_above low qs ≡ true → low < p.0
    → ((v : Command) → Contains qs (p.0, v) → ⊥) → are_pairs_above low (with_pair p qs) ≡ true
rising_with low p [] e less new = rising_from low p [] less refl
rising_with low p (q ∷ qs) e less new =
    let b = rising_parts low q qs e in
    elim (cases_Bool (nat_lt q.0 p.0)) [
      | inl before ↦ rw before
          (rising_from low q (with_pair p qs) b.0
          (rising_with q.0 p qs b.1 (ltb-true q.0 p.0 before) (λ v h. new v (contains_more q qs (p.0, v) h))))
      | inr behind ↦
          let le = ltb-false q.0 p.0 behind in
          let differs : p.0 ≡ q.0 → ⊥ =
          λ same. new q.1 (subst (λ (i : ℕ). Contains (q ∷ qs) (i, q.1)) (sym same) (first q qs)) in
          rw behind (rising_from low p (q ∷ qs) less (rising_from p.0 q qs (above le differs) b.1))
    ]
  where
    above : {i j : ℕ} → i ≤ j → (i ≡ j → ⊥) → i < j
    above {i} {j} le ne = elim (cases_Bool (eqb i j))
        [ inl same ↦ absurd (ne (eqb-true i j same)) | inr other ↦ (let k = eqb-false i j other in omega (arith, k)) ]

-- so does one of the next positions, up to twice alpha
pub kept_with : (e a : ℕ) (p : Pair) (qs : List Pair) → AreKept e a qs → e < p.0 → p.0 ≤ e + 2 * a
    → ((v : Command) → Contains qs (p.0, v) → ⊥) → AreKept e a (with_pair p qs)
kept_with e a p qs k above near new = record {
  rising = rising_with e p qs k.rising above new;
  near = λ r h. elim (with_only p qs r h)
      [ inl is ↦ subst (λ (x : Pair). x.0 ≤ e + 2 * a) is near | inr old ↦ k.near r old ];
}

-- ---- where it is put

-- how many stand before the position
abbrev pub before : ℕ → List Pair → ℕ
before i ps = prefix_len (λ (p : Pair). nat_lt p.0 i) ps

before_lower : (i : ℕ) (p : Pair) (ps : List Pair) → nat_lt p.0 i ≡ true → before i (p ∷ ps) ≡ suc (before i ps)
before_lower i p ps lower = let n : ℕ = before i ps in let e : 1 + n ≡ suc n = omega arith in rw lower e

pub inserted : (p : Pair) (ps : List Pair) → insert ps (before p.0 ps) p ≡ with_pair p ps
inserted p [] = refl
inserted p (q ∷ qs) =
    elim (cases_Bool (nat_lt q.0 p.0)) [
      | inl lower ↦
          (let more = before_lower p.0 q qs lower in rw (more, lower) (ap (λ (l : List Pair). q ∷ l) (inserted p qs)))
      | inr not_lower ↦ rw not_lower refl
    ]

-- there is room for it
pub room : (e a : ℕ) (p : Pair) (qs : List Pair) → a ≤ 64 → AreKept e a (with_pair p qs) → length qs < 128
room e a p qs small k =
    let le = prefix_len-le-length (λ (q : Pair). nat_lt q.0 p.0) qs in
    let many = ap length (inserted p qs) in
    let few = rising_count e (2 * a) (with_pair p qs) k.rising k.near in
    omega (arith, few, many, length-insert qs (before p.0 qs) p le)

above : (low : ℕ) (l : List Pair) → are_pairs_above low l ≡ true → (k : ℕ) (d : Pair)
    → k < length l → low < (get_or l k d).0
above low [] h k d lt = absurd (omega arith)
above low (s ∷ l) h zero d lt = (rising_parts low s l h).0
above low (s ∷ l) h (suc k) d lt =
    let parts = rising_parts low s l h in
    omega (arith, parts.0, above s.0 l parts.1 k d (omega arith))

pub pairs_rise : (low : ℕ) (l : List Pair) → are_pairs_above low l ≡ true → IsNonDecreasingBy (λ (p : Pair). p.0) l
pairs_rise low [] h i j d le lt = absurd (omega arith)
pairs_rise low (s ∷ l) h zero zero d le lt = omega arith
pairs_rise low (s ∷ l) h zero (suc j) d le lt = omega (arith, above s.0 l (rising_parts low s l h).1 j d (omega arith))
pairs_rise low (s ∷ l) h (suc i) zero d le lt = absurd (omega arith)
pairs_rise low (s ∷ l) h (suc i) (suc j) d le lt =
    pairs_rise s.0 l (rising_parts low s l h).1 i j d (omega arith) (omega arith)

-- where the positions in front are below and the others are not
pub index_is_before : (i n : ℕ) (l : List Pair)
    → IsPartitionPoint (λ (p : Pair). nat_lt p.0 i ≡ true) (λ (p : Pair). nat_lt p.0 i ≡ false) l n
    → n ≤ length l → n ≡ before i l
index_is_before i n l point le =
    sym (prefix_len_is (λ (p : Pair). nat_lt p.0 i) l n (0, Noop) le (λ k lt. point.0 k _ (omega arith) lt)
    (λ lt. point.1 n _ (omega arith) lt))

-- ---- the first one

-- of positions that rise above e, only the first can be the next
pub next_is_first : (e : ℕ) (p : Pair) (ps : List Pair) (v : Command) → are_pairs_above e (p ∷ ps) ≡ true
    → Contains (p ∷ ps) (e + 1, v) → p ≡ (e + 1, v)
next_is_first e p ps v rise h =
    let b = rising_parts e p ps rise in
    elim (cons_cases p ps (e + 1, v) h)
    [ inl is ↦ is | inr later ↦ (let k = rising_all p.0 ps b.1 (e + 1, v) later in absurd (omega (arith, k, b.0))) ]

-- those after it are left without it
pub without_later : (i low : ℕ) (ps : List Pair) → i ≤ low → are_pairs_above low ps ≡ true → without i ps ≡ ps
without_later i low [] le e = refl
without_later i low (p ∷ ps) le e =
    let b = rising_parts low p ps e in
    let other : eqb p.0 i ≡ false = ne_eqb p.0 i (λ same. omega (arith, same, b.0)) in
    rw other (ap (λ (l : List Pair). p ∷ l) (without_later i p.0 ps (omega (arith, b.0)) b.1))

pub without_first : (i low : ℕ) (p : Pair) (ps : List Pair) → p.0 ≡ i → are_pairs_above low (p ∷ ps) ≡ true
    → without i (p ∷ ps) ≡ ps
without_first i low p ps is e =
    let b = rising_parts low p ps e in
    let same : eqb p.0 i ≡ true = eq-eqb p.0 i is in
    rw same (without_later i p.0 ps (omega (arith, is)) b.1)

-- without that of the next position they are kept where one position more is executed
pub kept_without : (e a : ℕ) (ps : List Pair) → AreKept e a ps → AreKept (e + 1) a (without (e + 1) ps)
kept_without e a [] k = record { rising = refl; near = λ p h. absurd (omega (arith, h.1)) }
kept_without e a (p ∷ ps) k =
    let b = rising_parts e p ps k.rising in
    elim (cases_Bool (eqb p.0 (e + 1))) [
      | inl same ↦
          let is = eqb-true p.0 (e + 1) same in
          subst (AreKept (e + 1) a) (sym (without_first (e + 1) e p ps is k.rising)) (record {
            rising = subst (λ (i : ℕ). are_pairs_above i ps ≡ true) is b.1;
            near = λ q h. let n = k.near q (contains_more p ps q h) in omega (arith, n);
          })
      | inr other ↦
          let ne = eqb-false p.0 (e + 1) other in
          let above' : e + 1 < p.0 = omega (arith, ne, b.0) in
          let stays : without (e + 1) (p ∷ ps) ≡ p ∷ ps =
          rw other (ap (λ (l : List Pair). p ∷ l) (without_later (e + 1) p.0 ps (omega (arith, above')) b.1)) in
          subst (AreKept (e + 1) a) (sym stays) (record {
            rising = rising_from (e + 1) p ps above' b.1;
            near = λ q h. let n = k.near q h in omega (arith, n);
          })
    ]

-- what is left was there
pub without_from : (i : ℕ) (ps : List Pair) (p : Pair) → Contains (without i ps) p → Contains ps p
without_from i ps p h = filter_from (λ (q : Pair). not (eqb q.0 i)) ps p h

-- ---- those above a position

abbrev above_of : ℕ → List Pair → List Pair
above_of i = filter (λ (p : Pair). nat_lt i p.0)

-- of pairs that rise from there on all are above
all_above : (low i : ℕ) (ps : List Pair) → i ≤ low → are_pairs_above low ps ≡ true
    → are_pairs_above low (above_of i ps) ≡ true
all_above low i [] le e = refl
all_above low i (p ∷ ps) le e =
    let b = rising_parts low p ps e in
    let is : nat_lt i p.0 ≡ true = lt-ltb i p.0 (omega (arith, le, b.0)) in
    rw is (rising_from low p (above_of i ps) b.0 (all_above p.0 i ps (omega (arith, le, b.0)) b.1))

above_rise : (low i : ℕ) (ps : List Pair) → are_pairs_above low ps ≡ true → are_pairs_above i (above_of i ps) ≡ true
above_rise low i [] e = refl
above_rise low i (p ∷ ps) e =
    let b = rising_parts low p ps e in
    elim (cases_Bool (nat_lt i p.0)) [
      | inl is ↦ (let lt = ltb-true i p.0 is in
          rw is (rising_from i p (above_of i ps) lt (all_above p.0 i ps (omega (arith, lt)) b.1)))
      | inr other ↦ rw other (above_rise p.0 i ps b.1)
    ]

-- where more is executed those above it are kept
pub kept_above : (e i a : ℕ) (ps : List Pair) → e ≤ i → AreKept e a ps → AreKept i a (above_of i ps)
kept_above e i a ps le k = record {
  rising = above_rise e i ps k.rising;
  near = λ p h. let n = k.near p (filter_from (λ (q : Pair). nat_lt i q.0) ps p h) in omega (arith, n, le);
}

-- ---- the first one, as code finds it

pub next_from : (e : ℕ) (ps : List Pair) (p : Pair) → slice_get ps 0 ≡ Some p → p.0 ≡ e + 1
    → (v : Command) × Contains ps (e + 1, v)
next_from e [] p at is = absurd (cc at)
next_from e (q ∷ qs) p at is =
    let same : q ≡ p = cc at in
    (p.1, subst (λ (x : Pair). Contains (q ∷ qs) x) (same ∙ ap (λ (i : ℕ). (i, p.1)) is) (first q qs))

pub next_at : (e : ℕ) (ps : List Pair) (v : Command) → are_pairs_above e ps ≡ true → Contains ps (e + 1, v)
    → slice_get ps 0 ≡ Some (e + 1, v)
next_at e [] v rise h = absurd (omega (arith, h.1))
next_at e (q ∷ qs) v rise h = ap Some (next_is_first e q qs v rise h)

pub next_removed : (e : ℕ) (ps : List Pair) (v : Command) → are_pairs_above e ps ≡ true → Contains ps (e + 1, v)
    → remove ps 0 ≡ without (e + 1) ps
next_removed e [] v rise h = refl
next_removed e (q ∷ qs) v rise h =
    sym (without_first (e + 1) e q qs (ap (λ (x : Pair). x.0) (next_is_first e q qs v rise h)) rise)

pub got_first : (ps : List Pair) (p d : Pair) → slice_get ps 0 ≡ Some p → get_or ps 0 d ≡ p
got_first [] p d at = absurd (cc at)
got_first (q ∷ qs) p d at = cc at

-- ---- what holds of all that are kept

pub kept_within : (e a : ℕ) (ps : List Pair) → AreKept e a ps → (p : Pair) → Contains ps p
    → (e < p.0) × (p.0 ≤ e + 2 * a)
kept_within e a ps k p h = (rising_all e ps k.rising p h, k.near p h)

one_command : (low : ℕ) (ps : List Pair) → are_pairs_above low ps ≡ true → (i : ℕ) (v w : Command) → Contains ps (i, v)
    → Contains ps (i, w) → v ≡ w
one_command low [] rise i v w a b = absurd (omega (arith, a.1))
one_command low (p ∷ ps) rise i v w a b =
    let parts = rising_parts low p ps rise in
    elim (cons_cases p ps (i, v) a) [
      | inl here ↦ elim (cons_cases p ps (i, w) b) [
        | inl too ↦ ap (λ (x : Pair). x.1) (sym here ∙ too)
        | inr later ↦
            (let k = rising_all p.0 ps parts.1 (i, w) later in absurd (omega (arith, k, ap (λ (x : Pair). x.0) here)))
      ]
      | inr later ↦ elim (cons_cases p ps (i, w) b) [
        | inl here ↦
            (let k = rising_all p.0 ps parts.1 (i, v) later in absurd (omega (arith, k, ap (λ (x : Pair). x.0) here)))
        | inr too ↦ one_command p.0 ps parts.1 i v w later too
      ]
    ]

pub kept_once : (e a : ℕ) (ps : List Pair) → AreKept e a ps → (i : ℕ) (v w : Command) → Contains ps (i, v)
    → Contains ps (i, w) → v ≡ w
kept_once e a ps k = one_command e ps k.rising

pub kept_few : (e a : ℕ) (ps : List Pair) → AreKept e a ps → length ps ≤ 2 * a
kept_few e a ps k = rising_count e (2 * a) ps k.rising k.near

-- where the next one goes there is one less
pub without_next : (e a : ℕ) (ps : List Pair) (v : Command) → AreKept e a ps → Contains ps (e + 1, v)
    → suc (length (without (e + 1) ps)) ≡ length ps
without_next e a [] v k h = absurd (omega (arith, h.1))
without_next e a (p ∷ ps) v k h =
    ap (λ (l : List Pair). suc (length l))
    (without_first (e + 1) e p ps (ap (λ (x : Pair). x.0) (next_is_first e p ps v k.rising h)) k.rising)
