-- At most one request of a client waits.
use Rattle.std.proofs.Common.{◌≡◌, ℕ, Bool, true, false, cond, eqb, nat_le, nat_lt, List, [], ◌∷◌, refl, sym, subst}
use Rattle.std.proofs.Common.{inl, inr, arith, eqb-true}
use Rattle.std.specs.List.{AllByRecursion}
use Rattle.std.proofs.lemmas.Bool.{cases_Bool}
use Rattle.std.proofs.lemmas.Bool.Decides.{nat_tests}
use Rattle.lk_leader.specs.Waits.{RequestValue, newer, asked, left_by, AreOneEach}

abbrev Apart : ℕ → List RequestValue → Type 0
Apart k qs = AllByRecursion (λ q. eqb k q.client ≡ false) qs

flipped : (a b : ℕ) → eqb a b ≡ false → eqb b a ≡ false
flipped a b f = grind (arith, nat_tests)

client-newer : (r q : RequestValue) → r.client ≡ q.client → (newer r q).client ≡ q.client
client-newer r q same = by (nat_lt q.number r.number)
  where
    by : (b : Bool) → (cond b r q).client ≡ q.client
    by true = same
    by false = refl

apart-asked : (k : ℕ) (r : RequestValue) (qs : List RequestValue) → eqb k r.client ≡ false
    → Apart k qs → Apart k (asked r qs)
apart-asked k r [] new all = (new, tt)
apart-asked k r (q ∷ qs) new all =
    elim (cases_Bool (eqb r.client q.client)) [
      | inl t ↦
          rw t (subst (λ (c : ℕ). eqb k c ≡ false) (sym (client-newer r q (eqb-true r.client q.client t))) all.0, all.1)
      | inr f ↦ rw f (all.0, apart-asked k r qs new all.1)
    ]

pub one_each-asked : (r : RequestValue) (qs : List RequestValue) → AreOneEach qs → AreOneEach (asked r qs)
one_each-asked r [] h = (tt, tt)
one_each-asked r (q ∷ qs) h =
    elim (cases_Bool (eqb r.client q.client)) [
      | inl t ↦ rw t (subst (λ (c : ℕ). Apart c qs) (sym (client-newer r q (eqb-true r.client q.client t))) h.0, h.1)
      | inr f ↦ rw f (apart-asked q.client r qs (flipped r.client q.client f) h.0, one_each-asked r qs h.1)
    ]

apart-left : (k client number : ℕ) (qs : List RequestValue) → Apart k qs → Apart k (left_by client number qs)
apart-left k client number [] all = tt
apart-left k client number (q ∷ qs) all =
    elim (cases_Bool (eqb client q.client)) [
      | inl t ↦ rw t (elim (cases_Bool (nat_le q.number number)) [ inl u ↦ rw u all.1 | inr v ↦ rw v all ])
      | inr f ↦ rw f (all.0, apart-left k client number qs all.1)
    ]

pub one_each-left : (client number : ℕ) (qs : List RequestValue) → AreOneEach qs → AreOneEach (left_by client number qs)
one_each-left client number [] h = tt
one_each-left client number (q ∷ qs) h =
    elim (cases_Bool (eqb client q.client)) [
      | inl t ↦ rw t (elim (cases_Bool (nat_le q.number number)) [ inl u ↦ rw u h.1 | inr v ↦ rw v h ])
      | inr f ↦ rw f (apart-left q.client client number qs h.0, one_each-left client number qs h.1)
    ]
