-- Each number of a client takes effect once, and greater numbers behind smaller ones.
use Rattle.std.proofs.Common.{◌≡◌, ℕ, zero, suc, ◌-◌, ◌<◌, ◌≤◌, Bool, true, List, [], ◌∷◌, take, Some, Contains, ap}
use Rattle.std.proofs.Common.{sym, ◌∙◌, inl, inr, arith}
use Rattle.std.specs.List.{list_all}
use Rattle.std.proofs.lemmas.Bool.{and_parts, cases_lt}
use Rattle.lk_types.specs.declared.genesis.Genesis.{Genesis}
use Rattle.lk_members.specs.Effects.{Command, RequestValue, Request, is_older}
use Rattle.lk_agreement_laws.proofs.Histories.{cons_cases, contains_more}
use Rattle.lk_guarantees.specs.Plain.{at, TakesEffectAt, TakesEffectOnce}
use Rattle.lk_guarantees.proofs.Effects.{leaves}

-- what stands at a position stands in each front that reaches it
at_front : (L : List Command) (i n : ℕ) (v : Command) → at L i ≡ Some v → i ≤ n → Contains (take n L) v
at_front L zero n v e le = absurd cc
at_front [] (suc i) n v e le = absurd cc
at_front (c ∷ L) (suc zero) zero v e le = absurd (omega (arith, le))
at_front (c ∷ L) (suc zero) (suc n) v e le = (0, omega arith, cc)
at_front (c ∷ L) (suc (suc i)) zero v e le = absurd (omega (arith, le))
at_front (c ∷ L) (suc (suc i)) (suc n) v e le =
    contains_more c (take n L) v (at_front L (suc i) n v e (omega (arith, le)))

each_passes : (p : Command → Bool) (L : List Command) (v : Command) → list_all p L ≡ true → Contains L v → p v ≡ true
each_passes p [] v all c = absurd (omega (arith, c.1))
each_passes p (x ∷ L) v all c =
    let parts = and_parts (p x) (list_all p L) all in
    elim (cons_cases x L v c) [ inl here ↦ rw here at parts.0 | inr later ↦ each_passes p L v parts.1 later ]

older_is_less : (q r : RequestValue) → q.client ≡ r.client → is_older r (Request q) ≡ true → q.number < r.number
older_is_less q r client older = grind arith

-- the numbers of a client that take effect rise along the list
pub numbers_rise : (genesis : Genesis) (L : List Command) (i j : ℕ) (q r : RequestValue) → TakesEffectAt genesis L i q
    → TakesEffectAt genesis L j r → q.client ≡ r.client → i < j → q.number < r.number
numbers_rise genesis L i j q r first second client lt =
    let front = take (j - 1) L in
    let older : list_all (is_older r) front ≡ true = (leaves genesis front).least r ∙ second.1 in
    older_is_less q r client
    (each_passes (is_older r) front (Request q) older (at_front L i (j - 1) (Request q) first.0 (omega (arith, lt))))

-- of two requests of a client that take effect the one of the smaller number stands in front
pub smaller_first : (genesis : Genesis) (L : List Command) (i j : ℕ) (q r : RequestValue) → TakesEffectAt genesis L i q
    → TakesEffectAt genesis L j r → q.client ≡ r.client → q.number < r.number → i < j
smaller_first genesis L i j q r first second client less = elim (cases_lt i j) [
  | inl lower ↦ lower
  | inr most ↦ elim (cases_lt j i) [
    | inl greater ↦ absurd (omega (arith, less, numbers_rise genesis L j i r q second first (sym client) greater))
    | inr least ↦ (
        let same : i ≡ j = omega (arith, most, least) in
        let one : Some (Request q) ≡ Some (Request r) = sym first.0 ∙ ap (λ (n : ℕ). at L n) same ∙ second.0 in
        let equal : q ≡ r = cc one in
        absurd (omega (arith, less, ap (λ (x : RequestValue). x.number) equal)))
  ]
]

pub once : (genesis : Genesis) (L : List Command) → TakesEffectOnce genesis L
once genesis L i j q r first second client number = elim (cases_lt i j) [
  | inl lower ↦ absurd (omega (arith, number, numbers_rise genesis L i j q r first second client lower))
  | inr most ↦ elim (cases_lt j i) [
    | inl greater ↦ absurd (omega (arith, number, numbers_rise genesis L j i r q second first (sym client) greater))
    | inr least ↦ omega (arith, most, least)
  ]
]
