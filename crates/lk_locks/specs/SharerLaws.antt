-- Laws about adding a client to those who share a name, and removing one.
use Rattle.std.proofs.Common.{◌≡◌, ℕ, zero, suc, ◌+◌, ◌<◌, ◌≤◌, Bool, true, false, cond, not, eqb, nat_lt, ◌&&◌, List}
use Rattle.std.proofs.Common.{[], ◌∷◌, length, get_or, refl, ap, sym, inl, inr, arith}
use Rattle.std.specs.Prelude.{insert}
use Rattle.std.specs.List.{AllByRecursion, prefix_len}
use Rattle.std.specs.List.Sorted.{IsNonDecreasingBy, IsPartitionPoint}
use Rattle.std.proofs.lemmas.List.Sums.{prefix_len_is}
use Rattle.std.proofs.lemmas.Bool.{and_parts, and_from, cases_Bool, ltb-true, ltb-false, lt-ltb, le-ltb, eqb-false}
use Rattle.lk_types.specs.Ranges.{IsClient}
use Rattle.lk_locks.specs.Sharers.{are_clients_above, AreSharers, is_among, with_client, without, least}
use Rattle.lk_locks.specs.Holders.{IsHolders, held_by}

-- ---- one more

all_and : (client : ℕ) (cs : List ℕ) → IsClient client → AllByRecursion IsClient cs
    → AllByRecursion IsClient (with_client client cs)
all_and client [] is all = (is, tt)
all_and client (c ∷ cs) is all =
    elim (cases_Bool (nat_lt client c)) [
      | inl below ↦ rw below (is, all)
      | inr not_below ↦ elim (cases_Bool (eqb c client)) [
        | inl same ↦ rw (not_below, same) all
        | inr other ↦ rw (not_below, other) (all.0, all_and client cs is all.1)
      ]
    ]

rising_and : (low client : ℕ) (cs : List ℕ) → low < client → are_clients_above low cs ≡ true
    → are_clients_above low (with_client client cs) ≡ true
rising_and low client [] above h = and_from (nat_lt low client) true (lt-ltb low client above) refl
rising_and low client (c ∷ cs) above h =
    let parts = and_parts (nat_lt low c) (are_clients_above c cs) h in
    elim (cases_Bool (nat_lt client c)) [
      | inl below ↦ rw below (and_from (nat_lt low client) (nat_lt client c && are_clients_above c cs)
          (lt-ltb low client above) (and_from (nat_lt client c) (are_clients_above c cs) below parts.1))
      | inr not_below ↦
          let le = ltb-false client c not_below in
          elim (cases_Bool (eqb c client)) [
            | inl same ↦ rw (not_below, same) h
            | inr other ↦
                let not_same = eqb-false c client other in
                rw (not_below, other) (and_from (nat_lt low c) (are_clients_above c (with_client client cs)) parts.0
                (rising_and c client cs (omega arith) parts.1))
          ]
    ]

length_and : (client : ℕ) (cs : List ℕ)
    → (1 ≤ length (with_client client cs)) × (length (with_client client cs) ≤ length cs + 1)
length_and client [] = (omega arith, omega arith)
length_and client (c ∷ cs) =
    let rest = length_and client cs in
    elim (cases_Bool (nat_lt client c)) [
      | inl below ↦ rw below (omega arith, omega arith)
      | inr not_below ↦ elim (cases_Bool (eqb c client)) [
        | inl same ↦ rw (not_below, same) (omega arith, omega arith)
        | inr other ↦ rw (not_below, other) (omega arith, omega (arith, rest.1))
      ]
    ]

pub with_client-fits : (client : ℕ) (cs : List ℕ) → IsClient client → length cs < 8 → AreSharers cs
    → AreSharers (with_client client cs)
with_client-fits client cs is room are =
    let len = length_and client cs in
    (len.0, omega (arith, len.1, room), all_and client cs is are.2, rising_and 0 client cs (omega (arith, is.0)) are.3)

-- how many precede the client
abbrev pub before : ℕ → List ℕ → ℕ
before client cs = prefix_len (λ (c : ℕ). nat_lt c client) cs

before_lower : (client c : ℕ) (cs : List ℕ) → nat_lt c client ≡ true → before client (c ∷ cs) ≡ suc (before client cs)
before_lower client c cs lower = let n : ℕ = before client cs in let e : 1 + n ≡ suc n = omega arith in rw lower e

-- a new client is inserted at its place
pub inserted : (client : ℕ) (cs : List ℕ) → is_among client cs ≡ false
    → insert cs (before client cs) client ≡ with_client client cs
inserted client [] h = refl
inserted client (c ∷ cs) h =
    elim (cases_Bool (eqb c client)) [
      | inl same ↦ let no : true ≡ false = rw same at h in absurd cc
      | inr other ↦
          let is_not = eqb-false c client other in
          let here : is_among client cs ≡ false = rw other at h in
          elim (cases_Bool (nat_lt c client)) [
            | inl lower ↦
                let lt = ltb-true c client lower in
                let not_below : nat_lt client c ≡ false = le-ltb client c (omega arith) in
                rw (before_lower client c cs lower, not_below, other)
                (ap (λ (ds : List ℕ). c ∷ ds) (inserted client cs here))
            | inr not_lower ↦
                let le = ltb-false c client not_lower in
                let none : before client (c ∷ cs) ≡ 0 = rw not_lower refl in
                let below : nat_lt client c ≡ true = lt-ltb client c (omega arith) in
                rw (none, below) refl
          ]
    ]

-- ---- one less

all_but : (client : ℕ) (cs : List ℕ) → AllByRecursion IsClient cs → AllByRecursion IsClient (without client cs)
all_but client [] all = tt
all_but client (c ∷ cs) all = by (not (eqb c client)) (all_but client cs all.1)
  where
    by : (b : Bool) → AllByRecursion IsClient (without client cs)
        → AllByRecursion IsClient (cond b (c ∷ without client cs) (without client cs))
    by true rest = (all.0, rest)
    by false rest = rest

lower : (low high : ℕ) (cs : List ℕ) → low < high → are_clients_above high cs ≡ true → are_clients_above low cs ≡ true
lower low high [] lt h = refl
lower low high (c ∷ cs) lt h =
    let parts = and_parts (nat_lt high c) (are_clients_above c cs) h in
    let up = ltb-true high c parts.0 in
    and_from (nat_lt low c) (are_clients_above c cs) (lt-ltb low c (omega arith)) parts.1

rising_but : (low client : ℕ) (cs : List ℕ) → are_clients_above low cs ≡ true
    → are_clients_above low (without client cs) ≡ true
rising_but low client [] h = refl
rising_but low client (c ∷ cs) h =
    let parts = and_parts (nat_lt low c) (are_clients_above c cs) h in
    by (not (eqb c client)) (rising_but c client cs parts.1)
  where
    by : (b : Bool) → are_clients_above c (without client cs) ≡ true
        → are_clients_above low (cond b (c ∷ without client cs) (without client cs)) ≡ true
    by true rest = let parts = and_parts (nat_lt low c) (are_clients_above c cs) h in
        and_from (nat_lt low c) (are_clients_above c (without client cs)) parts.0 rest
    by false rest = let parts = and_parts (nat_lt low c) (are_clients_above c cs) h in
        lower low c (without client cs) (ltb-true low c parts.0) rest

length_but : (client : ℕ) (cs : List ℕ) → length (without client cs) ≤ length cs
length_but client [] = omega arith
length_but client (c ∷ cs) = by (not (eqb c client)) (length_but client cs)
  where
    by : (b : Bool) → length (without client cs) ≤ length cs
        → length (cond b (c ∷ without client cs) (without client cs)) ≤ length (c ∷ cs)
    by true le = omega (arith, le)
    by false le = omega (arith, le)

some_left : (cs : List ℕ) → (cs ≡ [] → ⊥) → 1 ≤ length cs
some_left [] h = absurd (h refl)
some_left (c ∷ cs) h = omega arith

pub without-fits : (client : ℕ) (cs : List ℕ) → AreSharers cs → (without client cs ≡ [] → ⊥)
    → AreSharers (without client cs)
without-fits client cs are some = (
  some_left (without client cs) some,
  omega (arith, length_but client cs, are.1),
  all_but client cs are.2,
  rising_but 0 client cs are.3,
)

pub is_some : (cs : List ℕ) → AreSharers cs → cs ≡ [] → ⊥
is_some cs are e = omega (arith, are.0, ap length e)

held : (cs : List ℕ) → ((cs ≡ [] → ⊥) → AreSharers cs) → IsHolders (held_by cs)
held [] are = tt
held (c ∷ cs) are = are (λ e. absurd cc)

pub held_by-fits : (client : ℕ) (cs : List ℕ) → AreSharers cs → IsHolders (held_by (without client cs))
held_by-fits client cs are = held (without client cs) (without-fits client cs are)

-- ---- one alone, and the least

pub one_sharer : (client : ℕ) → IsClient client → AreSharers (client ∷ [])
one_sharer client is =
    (omega arith, omega arith, (is, tt), and_from (nat_lt 0 client) true (lt-ltb 0 client (omega (arith, is.0))) refl)

pub least-fits : (cs : List ℕ) → AreSharers cs → IsClient (least cs)
least-fits [] are = absurd (omega (arith, are.0))
least-fits (c ∷ cs) are = are.2.0

-- ---- the place of a client

above : (low : ℕ) (cs : List ℕ) → are_clients_above low cs ≡ true → (j d : ℕ) → j < length cs → low < get_or cs j d
above low [] h j d lt = absurd (omega (arith, lt))
above low (c ∷ cs) h zero d lt = ltb-true low c (and_parts (nat_lt low c) (are_clients_above c cs) h).0
above low (c ∷ cs) h (suc j) d lt =
    let parts = and_parts (nat_lt low c) (are_clients_above c cs) h in
    let first = ltb-true low c parts.0 in
    let rest = above c cs parts.1 j d (omega (arith, lt)) in
    omega arith

pub clients_rise : (low : ℕ) (cs : List ℕ) → are_clients_above low cs ≡ true → IsNonDecreasingBy (λ (c : ℕ). c) cs
clients_rise low [] h i j d le lt = absurd (omega arith)
clients_rise low (c ∷ cs) h zero zero d le lt = omega arith
clients_rise low (c ∷ cs) h zero (suc j) d le lt =
    omega (arith, above c cs (and_parts (nat_lt low c) (are_clients_above c cs) h).1 j d (omega arith))
clients_rise low (c ∷ cs) h (suc i) zero d le lt = absurd (omega arith)
clients_rise low (c ∷ cs) h (suc i) (suc j) d le lt =
    clients_rise c cs (and_parts (nat_lt low c) (are_clients_above c cs) h).1 i j d (omega arith) (omega arith)

-- where the clients before it are below and the others are not
pub index_is_before : (client n : ℕ) (cs : List ℕ)
    → IsPartitionPoint (λ (c : ℕ). nat_lt c client ≡ true) (λ (c : ℕ). nat_lt c client ≡ false) cs n
    → n ≤ length cs → n ≡ before client cs
index_is_before client n cs point le =
    sym (prefix_len_is (λ (c : ℕ). nat_lt c client) cs n 0 le (λ k lt. point.0 k _ (omega arith) lt)
    (λ lt. point.1 n _ (omega arith) lt))
