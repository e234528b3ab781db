-- Votes of later positions, in an acceptor's list and in what a snapshot leaves of it.
use Rattle.std.proofs.Common.{◌≡◌, ◌∙◌, inl, inr, ℕ, ◌<◌, ◌≤◌}
use Rattle.std.proofs.Common.{nat_lt, nat_le, Bool, true}
use Rattle.std.proofs.Common.{List, [], ◌∷◌, Contains, filter, refl, ap, sym, subst, arith}
use Rattle.std.proofs.Common.{eqb}
use Rattle.std.proofs.lemmas.Bool.{cases_Bool}
use Rattle.std.proofs.lemmas.Bool.Decides.{nat_tests}
use Rattle.lk_types.specs.Ballots.{is_below}
use Rattle.lk_types.specs.declared.vote.Vote.{Vote}
use Rattle.lk_store_format.specs.VoteLists.{votes_with}
use Rattle.lk_agreement_laws.proofs.Histories.{contains_more, cons_cases, filter_from}
use Rattle.lk_acceptor.specs.VoteLists.{votes_above, votes_from}

-- what one filter takes out is no matter to a stricter one
pub strict_filter : {X : Type 0} (P Q : X → Bool) → ((x : X) → P x ≡ true → Q x ≡ true) → (xs : List X)
    → filter P (filter Q xs) ≡ filter P xs
strict_filter P Q sure [] = refl
strict_filter P Q sure (x ∷ xs) =
    let rest = strict_filter P Q sure xs in
    elim (cases_Bool (Q x)) [
      | inl kept ↦ elim (cases_Bool (P x)) [ inl t ↦ rw (kept, t) (ap (λ l. x ∷ l) rest) | inr f ↦ rw (kept, f) rest ]
      | inr out ↦ elim (cases_Bool (P x)) [ inl t ↦ absurd (cc (sym out ∙ sure x t)) | inr f ↦ rw (out, f) rest ]
    ]

filter_keeps : {X : Type 0} (P : X → Bool) (xs : List X) (x : X) → P x ≡ true → Contains xs x → Contains (filter P xs) x
filter_keeps P [] x t c = absurd (omega (arith, c.1))
filter_keeps P (y ∷ xs) x t c =
    elim (cases_Bool (P y)) [
      | inl kept ↦ rw kept (elim (cons_cases y xs x c) [
        | inl is ↦ (0, omega arith, is)
        | inr later ↦ contains_more y (filter P xs) x (filter_keeps P xs x t later)
      ])
      | inr out ↦ rw out (elim (cons_cases y xs x c) [
        | inl is ↦ absurd (cc (sym out ∙ ap P is ∙ t))
        | inr later ↦ filter_keeps P xs x t later
      ])
    ]

above_later : (e k : ℕ) → e ≤ k → (v : Vote) → nat_lt k v.position ≡ true → nat_lt e v.position ≡ true
above_later e k le v t = grind (arith, nat_tests)

from_above : (e k : ℕ) → e < k → (v : Vote) → nat_le k v.position ≡ true → nat_lt e v.position ≡ true
from_above e k lt v t = grind (arith, nat_tests)

above_test : (e : ℕ) (v : Vote) → e < v.position → nat_lt e v.position ≡ true
above_test e v lt = grind (arith, nat_tests)

-- ---- votes of later positions

module _ (e : ℕ) (old new : List Vote) (same : votes_above e old ≡ votes_above e new) where
  pub same_above : (k : ℕ) → e ≤ k → votes_above k old ≡ votes_above k new
  same_above k le =
      sym (strict_filter (λ v. nat_lt k v.position) (λ v. nat_lt e v.position) (above_later e k le) old)
      ∙ ap (votes_above k) same
      ∙ strict_filter (λ v. nat_lt k v.position) (λ v. nat_lt e v.position) (above_later e k le) new

  pub same_from : (k : ℕ) → e < k → votes_from k old ≡ votes_from k new
  same_from k lt =
      sym (strict_filter (λ v. nat_le k v.position) (λ v. nat_lt e v.position) (from_above e k lt) old)
      ∙ ap (votes_from k) same
      ∙ strict_filter (λ v. nat_le k v.position) (λ v. nat_lt e v.position) (from_above e k lt) new

  pub still_has : (v : Vote) → e < v.position → Contains new v → Contains old v
  still_has v lt c = filter_from (λ (w : Vote). nat_lt e w.position) old v
      (subst (λ (l : List Vote). Contains l v) (sym same)
      (filter_keeps (λ (w : Vote). nat_lt e w.position) new v (above_test e v lt) c))

-- a vote of a later position has its place among those of later positions
voted_above : (e : ℕ) (x : Vote) (votes : List Vote) → e < x.position
    → votes_above e (votes_with x votes) ≡ votes_with x (votes_above e votes)
voted_above e x [] lt = let t = above_test e x lt in rw t refl
voted_above e x (w ∷ votes) lt =
    let rest = voted_above e x votes lt in
    let t = above_test e x lt in
    elim (cases_Bool (nat_lt w.position x.position)) [
      | inl less ↦ elim (cases_Bool (nat_lt e w.position)) [
        | inl late ↦ rw (less, late, less) (ap (λ (l : List Vote). w ∷ l) rest)
        | inr early ↦ rw (less, early) rest
      ]
      | inr more ↦
          let late : nat_lt e w.position ≡ true = grind (arith, nat_tests) in
          elim (cases_Bool (eqb w.position x.position)) [
            | inl here ↦ elim (cases_Bool (is_below w.ballot x.ballot)) [
              | inl newer ↦ rw (late, more, here, newer, t) refl
              | inr older ↦ rw (late, more, here, older, late) refl
            ]
            | inr there ↦ rw (late, more, there, t, late) refl
          ]
    ]

pub same_voted : (e : ℕ) (x : Vote) (old new : List Vote) → e < x.position → votes_above e old ≡ votes_above e new
    → votes_above e (votes_with x old) ≡ votes_above e (votes_with x new)
same_voted e x old new lt same = voted_above e x old lt ∙ ap (votes_with x) same ∙ sym (voted_above e x new lt)
