-- When more nodes are still a majority, and whom lists of members name.
use Rattle.std.proofs.Common.{◌≡◌, ◌∙◌, inl, inr, ℕ, ◌≤◌, Bool, true, false, cond, ◌==◌}
use Rattle.std.proofs.Common.{List, [], ◌∷◌, map, filter, Contains, count_by, refl, ap, sym, subst, arith}
use Rattle.std.proofs.Common.{eqb-true}
use Rattle.std.proofs.lemmas.Bool.{cases_Bool, or_cases, and_from, eq-eqb}
use Rattle.std.proofs.lemmas.List.Sums.{sum_by-cons}
use Rattle.std.specs.List.{list_any, list_all}
use Rattle.lk_agreement_laws.proofs.Histories.{cons_cases, contains_more}
use Rattle.lk_leader.specs.Acceptances.{members_among}
use Rattle.lk_members.proofs.Memberships.{majorities_meet}
use Rattle.lk_members.specs.Majorities.{IsMajority}
use Rattle.lk_members.specs.Rosters.{Member, is_member}

-- ---- tests of lists

pub any_contains : (nodes : List ℕ) (k : ℕ) → Contains nodes k → list_any (λ n. n == k) nodes ≡ true
any_contains [] k h = absurd (omega (arith, h.1))
any_contains (n ∷ nodes) k h =
    elim (cases_Bool (n == k)) [
      | inl same ↦ rw same refl
      | inr other ↦ elim (cons_cases n nodes k h) [
        | inl is ↦ absurd (cc (sym other ∙ eq-eqb n k is))
        | inr later ↦ rw other (any_contains nodes k later)
      ]
    ]

pub contains_any : (nodes : List ℕ) (k : ℕ) → list_any (λ n. n == k) nodes ≡ true → Contains nodes k
contains_any [] k h = absurd (cc h)
contains_any (n ∷ nodes) k h =
    elim (or_cases (n == k) (list_any (λ j. j == k) nodes) h) [
      | inl same ↦ (0, omega arith, eqb-true n k same)
      | inr later ↦ contains_more n nodes k (contains_any nodes k later)
    ]

all_from : (test : ℕ → Bool) (ns : List ℕ) → ((n : ℕ) → Contains ns n → test n ≡ true) → list_all test ns ≡ true
all_from test [] each = refl
all_from test (n ∷ ns) each =
    and_from (test n) (list_all test ns) (each n (0, omega arith, refl))
    (all_from test ns (λ k h. each k (contains_more n ns k h)))

-- ---- counts

count_more : (p q : Member → Bool) (xs : List Member) → ((x : Member) → p x ≡ true → q x ≡ true)
    → count_by p xs ≤ count_by q xs
count_more p q [] each = omega arith
count_more p q (x ∷ xs) each =
    let rest = count_more p q xs each in
    let here = sum_by-cons (λ y. cond (p y) 1 0) x xs in
    let there = sum_by-cons (λ y. cond (q y) 1 0) x xs in
    omega (arith, rest, here, there, at_head (p x) (q x) (each x))
  where
    at_head : (a b : Bool) → (a ≡ true → b ≡ true) → ◌≤◌ (cond a 1 0) (cond b 1 0)
    at_head true true both = omega arith
    at_head true false both = absurd (cc (both refl))
    at_head false b both = omega arith

-- more members of a set are a majority if fewer are
pub majority_more : (set : List Member) (few many : List ℕ) → IsMajority few set
    → ((n : ℕ) → Contains many n → is_member n set ≡ true) → ((n : ℕ) → Contains few n → Contains many n)
    → IsMajority many set
majority_more set few many major within more = record {
  within = all_from (λ n. is_member n set) many within;
  more_than_half =
      let counts = count_more (λ m. list_any (λ n. n == m.node) few) (λ m. list_any (λ n. n == m.node) many) set
      (λ m h. any_contains many m.node (more m.node (contains_any few m.node h))) in
      omega (arith, major.more_than_half, counts);
}

-- nobody is no majority
pub nobody_is_few : (set : List Member) → IsMajority [] set → ⊥
nobody_is_few set major = let both = majorities_meet set [] [] major major in omega (arith, both.1.1)

-- ---- the nodes of members that pass a test

-- a node of the set that passes is among them
pub passing_has : (test : ℕ → Bool) (set : List Member) (k : ℕ) → is_member k set ≡ true → test k ≡ true
    → Contains (map (λ (m : Member). m.node) (filter (λ m. test m.node) set)) k
passing_has test [] k named pass = absurd (cc named)
passing_has test (m ∷ set) k named pass =
    elim (cases_Bool (test m.node)) [
      | inl t ↦ elim (or_cases (m.node == k) (is_member k set) named) [
        | inl same ↦ rw t (0, omega arith, eqb-true m.node k same)
        | inr later ↦ rw t (contains_more m.node _ k (passing_has test set k later pass))
      ]
      | inr f ↦ elim (or_cases (m.node == k) (is_member k set) named) [
        | inl same ↦ absurd (cc (sym f ∙ ap test (eqb-true m.node k same) ∙ pass))
        | inr later ↦ rw f (passing_has test set k later pass)
      ]
    ]

-- and all of them are nodes of the set
pub passing_named : (test : ℕ → Bool) (set : List Member) (k : ℕ)
    → Contains (map (λ (m : Member). m.node) (filter (λ m. test m.node) set)) k → is_member k set ≡ true
passing_named test [] k h = absurd (omega (arith, h.1))
passing_named test (m ∷ set) k h =
    elim (cases_Bool (m.node == k)) [
      | inl same ↦ rw same refl
      | inr other ↦ rw other (elim (cases_Bool (test m.node)) [
        | inl t ↦ elim (cons_cases m.node _ k (rw t at h)) [
          | inl is ↦ absurd (cc (sym other ∙ eq-eqb m.node k is))
          | inr later ↦ passing_named test set k later
        ]
        | inr f ↦ passing_named test set k (rw f at h)
      ])
    ]

-- and pass
pub passing_pass : (test : ℕ → Bool) (set : List Member) (k : ℕ)
    → Contains (map (λ (m : Member). m.node) (filter (λ m. test m.node) set)) k → test k ≡ true
passing_pass test [] k h = absurd (omega (arith, h.1))
passing_pass test (m ∷ set) k h =
    elim (cases_Bool (test m.node)) [
      | inl t ↦ elim (cons_cases m.node _ k (rw t at h)) [
        | inl is ↦ subst (λ (j : ℕ). test j ≡ true) is t
        | inr later ↦ passing_pass test set k later
      ]
      | inr f ↦ passing_pass test set k (rw f at h)
    ]

pub among_none : (set : List Member) → members_among set [] ≡ []
among_none [] = refl
among_none (m ∷ set) = among_none set
