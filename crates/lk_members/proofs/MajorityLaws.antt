-- Majorities of one set share a node.
use Rattle.std.proofs.Common.{◌≡◌, ℕ, zero, suc, ◌+◌, ◌<◌, ◌≤◌, Bool, true, false, cond, ◌==◌, List, [], ◌∷◌, length}
use Rattle.std.proofs.Common.{Contains, count_by, refl, ap, sym, ◌∙◌, inl, inr, arith, eqb-true}
use Rattle.std.specs.List.{list_any, list_all}
use Rattle.std.proofs.lemmas.Bool.{or_cases, and_parts}
use Rattle.std.proofs.lemmas.List.Sums.{sum_by-cons}
use Rattle.lk_members.specs.Rosters.{Member, is_member}
use Rattle.lk_members.specs.Majorities.{IsMajority}

-- where two tests together pass more often than there are elements, one element passes both
both_pass : {X : Type 0} (p q : X → Bool) (xs : List X) → length xs < count_by p xs + count_by q xs
    → (x : X) × (p x ≡ true) × (q x ≡ true)
both_pass p q [] h = absurd (omega arith)
both_pass {X} p q (x ∷ xs) h = at_head (p x) (q x) refl refl (both_pass p q xs)
  where
    at_most : (t : Bool) → cond t 1 0 ≤ 1
    at_most true = omega arith
    at_most false = omega arith

    none : (t : Bool) → t ≡ false → ◌≡◌ {A = ℕ} (cond t 1 0) 0
    none t e = rw e

    at_head : (a b : Bool) → p x ≡ a → q x ≡ b
        → (length xs < count_by p xs + count_by q xs → (y : X) × (p y ≡ true) × (q y ≡ true))
        → (y : X) × (p y ≡ true) × (q y ≡ true)
    at_head true true e f rest = (x, e, f)
    at_head false b e f rest =
        rest (omega (
          arith,
          sum_by-cons (λ y. cond (p y) 1 0) x xs,
          sum_by-cons (λ y. cond (q y) 1 0) x xs,
          none (p x) e,
          at_most (q x),
        ))
    at_head a false e f rest =
        rest (omega (
          arith,
          sum_by-cons (λ y. cond (p y) 1 0) x xs,
          sum_by-cons (λ y. cond (q y) 1 0) x xs,
          none (q x) f,
          at_most (p x),
        ))

is_listed : (nodes : List ℕ) (m : ℕ) → list_any (λ n. n == m) nodes ≡ true → Contains nodes m
is_listed [] m h = absurd cc
is_listed (n ∷ nodes) m h =
    elim (or_cases (n == m) (list_any (λ k. k == m) nodes) h) [
      | inl e ↦ (0, omega arith, eqb-true n m e)
      | inr e ↦ let r = is_listed nodes m e in (suc r.0, omega (arith, r.1), r.2)
    ]

passes_each : (test : ℕ → Bool) (ns : List ℕ) (n : ℕ) → list_all test ns ≡ true → Contains ns n → test n ≡ true
passes_each test [] n all (k, lt, is) = absurd (omega arith)
passes_each test (m ∷ ns) n all (zero, lt, is) = ap test (sym is) ∙ (and_parts (test m) (list_all test ns) all).0
passes_each test (m ∷ ns) n all (suc k, lt, is) =
    passes_each test ns n (and_parts (test m) (list_all test ns) all).1 (k, omega arith, is)

-- each node of a majority is a member
pub majority_lies_within : (set : List Member) (nodes : List ℕ) (n : ℕ) → IsMajority nodes set
    → Contains nodes n → is_member n set ≡ true
majority_lies_within set nodes n m h = passes_each (λ n. is_member n set) nodes n m.within h

-- two majorities of one set share a node
pub majorities_meet : (set : List Member) (W V : List ℕ) → IsMajority W set → IsMajority V set
    → (n : ℕ) × Contains W n × Contains V n
majorities_meet set W V w v =
    let b = both_pass (λ (m : Member). list_any (λ n. n == m.node) W)
    (λ (m : Member). list_any (λ n. n == m.node) V) set (omega (arith, w.more_than_half, v.more_than_half)) in
    (b.0.node, is_listed W b.0.node b.1, is_listed V b.0.node b.2)
