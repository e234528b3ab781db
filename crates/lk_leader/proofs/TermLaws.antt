-- The proposals that a term keeps: at most one a position, and so at most as many as the window has.
use Rattle.std.proofs.Common.{◌≡◌, ◌∙◌, ℕ, zero, suc, ◌+◌, ◌<◌, ◌≤◌, ◌&&◌, Bool, true, false, eqb, nat_eq, nat_le}
use Rattle.std.proofs.Common.{nat_lt, Some, None, List, [], ◌∷◌, ◌++◌, length, get_or, map, filter, drop, refl, ap, sym}
use Rattle.std.proofs.Common.{subst, arith, eqb-true, inl, inr, length-append, ◌⊎◌}
use Rattle.std.specs.Prelude.{position, slice_set}
use Rattle.std.specs.Cmp.{nat_eq_equiv}
use Rattle.std.specs.List.{IsDistinct, AllByRecursion, list_any, refill, position_or_len}
use Rattle.std.proofs.lemmas.Bool.{cases_Bool, and_parts, or_cases, ltb-true, lt-ltb, leb-true}
use Rattle.std.proofs.lemmas.Bool.Decides.{nat_tests}
use Rattle.std.proofs.lemmas.List.{length-map, length-set, take_at}
use Rattle.std.proofs.lemmas.Map.Keys.{IsDistinct-push}
use Rattle.std.proofs.lemmas.Map.Made.{length-le_from_is_member}
use Rattle.lk_types.specs.declared.member.Member.{Member}
use Rattle.lk_leader.specs.Terms.{ProposalValue, proposal_at, in_window}
use Rattle.lk_leader.specs.Acceptances.{heard, heard_at}
use Rattle.lk_leader.proofs.MemberLaws.{map-push}

abbrev pub positions : List ProposalValue → List ℕ
positions ps = map (λ p. p.position) ps

pub distinct-none : IsDistinct nat_eq []
unfolding IsDistinct
distinct-none = tt

apart-filter : (w : ProposalValue → Bool) (k : ℕ) (ps : List ProposalValue)
    → AllByRecursion (λ y. nat_eq k y ≡ false) (positions ps)
    → AllByRecursion (λ y. nat_eq k y ≡ false) (positions (filter w ps))
apart-filter w k [] all = tt
apart-filter w k (p ∷ ps) all =
    elim (cases_Bool (w p)) [
      | inl t ↦ rw t (all.0, apart-filter w k ps all.1)
      | inr f ↦ rw f (apart-filter w k ps all.1)
    ]

distinct-filter : (w : ProposalValue → Bool) (ps : List ProposalValue) → IsDistinct nat_eq (positions ps)
    → IsDistinct nat_eq (positions (filter w ps))
unfolding IsDistinct
distinct-filter w [] h = tt
distinct-filter w (p ∷ ps) h =
    elim (cases_Bool (w p)) [
      | inl t ↦ rw t (apart-filter w p.position ps h.0, distinct-filter w ps h.1)
      | inr f ↦ rw f (distinct-filter w ps h.1)
    ]

-- ---- a new position

flipped : (a b : ℕ) → eqb a b ≡ false → eqb b a ≡ false
flipped a b f = grind (arith, nat_tests)

absent : (w : ProposalValue → Bool) (i : ℕ) (ps : List ProposalValue) → proposal_at i ps ≡ None
    → list_any (nat_eq i) (positions (filter w ps)) ≡ false
absent w i [] none = refl
absent w i (p ∷ ps) none =
    elim (cases_Bool (eqb p.position i)) [
      | inl t ↦ (let found = rw t at none in absurd (cc found))
      | inr f ↦
          (let rest = absent w i ps (rw f at none) in
          elim (cases_Bool (w p)) [
            | inl t ↦ rw t (rw (flipped p.position i f) rest)
            | inr g ↦ rw g rest
          ])
    ]

-- the positions stay distinct when those outside the window go and a new one comes
pub distinct-proposed : (w : ProposalValue → Bool) (p : ProposalValue) (ps : List ProposalValue)
    → IsDistinct nat_eq (positions ps) → proposal_at p.position ps ≡ None
    → IsDistinct nat_eq (positions (filter w ps ++ p ∷ []))
distinct-proposed w p ps h none =
    subst (IsDistinct nat_eq) (sym (map-push (λ (q : ProposalValue). q.position) (filter w ps) (p ∷ [])))
    (IsDistinct-push nat_eq_equiv (positions (filter w ps)) p.position (distinct-filter w ps h)
    (absent w p.position ps none))

-- ---- so many positions after the executed ones

behind : ℕ → ℕ → List ℕ
behind e zero = []
behind e (suc n) = (e + suc n) ∷ behind e n

length-behind : (e n : ℕ) → length (behind e n) ≡ n
unfolding behind
length-behind e zero = refl
length-behind e (suc n) = ap suc (length-behind e n)

is_behind : (e n q : ℕ) → e < q → q ≤ e + n → list_any (nat_eq q) (behind e n) ≡ true
unfolding behind
is_behind e zero q above within = absurd (omega arith)
is_behind e (suc n) q above within =
    elim (cases_Bool (eqb q (e + suc n))) [
      | inl t ↦ rw t refl
      | inr f ↦ rw f (is_behind e n q above (grind (arith, nat_tests)))
    ]

here : (e a q : ℕ) (p : ProposalValue) → nat_lt e p.position && nat_le p.position (e + a) ≡ true
    → eqb q p.position ≡ true → (e < q) × (q ≤ e + a)
here e a q p w t =
    let parts = and_parts (nat_lt e p.position) (nat_le p.position (e + a)) w in
    let same : q ≡ p.position = eqb-true q p.position t in
    (rw same (ltb-true e p.position parts.0), rw same (leb-true p.position (e + a) parts.1))

kept_within : (e a q : ℕ) (ps : List ProposalValue)
    → list_any (nat_eq q) (positions (in_window e a ps)) ≡ true → (e < q) × (q ≤ e + a)
kept_within e a q [] h = absurd (cc h)
kept_within e a q (p ∷ ps) h =
    elim (cases_Bool (nat_lt e p.position && nat_le p.position (e + a))) [
      | inl w ↦ elim (or_cases (eqb q p.position) (list_any (nat_eq q) (positions (in_window e a ps))) (rw w at h))
          [ inl t ↦ here e a q p w t | inr r ↦ kept_within e a q ps r ]
      | inr w ↦ kept_within e a q ps (rw w at h)
    ]

any-push : (q : ℕ) (xs : List ℕ) (y : ℕ) → list_any (nat_eq q) (xs ++ y ∷ []) ≡ true
    → (list_any (nat_eq q) xs ≡ true) ⊎ (q ≡ y)
any-push q [] y k = elim (or_cases (eqb q y) false k) [ inl t ↦ inr (eqb-true q y t) | inr f ↦ absurd (cc f) ]
any-push q (x ∷ xs) y k =
    elim (or_cases (eqb q x) (list_any (nat_eq q) (xs ++ y ∷ [])) k) [
      | inl t ↦ inl (rw t refl)
      | inr r ↦ elim (any-push q xs y r)
          [ inl s ↦ elim (cases_Bool (eqb q x)) [ inl u ↦ inl (rw u refl) | inr v ↦ inl (rw v s) ] | inr is ↦ inr is ]
    ]

-- there is room for a new position of the window
pub room : (e a : ℕ) (p : ProposalValue) (ps : List ProposalValue) → IsDistinct nat_eq (positions ps)
    → proposal_at p.position ps ≡ None → e < p.position → p.position ≤ e + a
    → length (in_window e a ps) < a
room e a p ps h none above within =
    let w : ProposalValue → Bool = λ (q : ProposalValue). nat_lt e q.position && nat_le q.position (e + a) in
    let all : List ℕ = positions (filter w ps) ++ p.position ∷ [] in
    let distinct : IsDistinct nat_eq all =
    IsDistinct-push nat_eq_equiv (positions (filter w ps)) p.position (distinct-filter w ps h)
    (absent w p.position ps none) in
    let few : length all ≤ length (behind e a) =
    length-le_from_is_member nat_eq_equiv all (behind e a) distinct
    (λ q k. each q (elim (any-push q (positions (filter w ps)) p.position k)
    [ inl old ↦ kept_within e a q ps old | inr is ↦ (rw is above, rw is within) ])) in
    omega (
      arith,
      few,
      length-behind e a,
      length-append (positions (filter w ps)) (p.position ∷ []),
      length-map (filter w ps) (λ (q : ProposalValue). q.position),
    )
  where
    each : (q : ℕ) → (e < q) × (q ≤ e + a) → list_any (nat_eq q) (behind e a) ≡ true
    each q k = is_behind e a q k.0 k.1

-- ---- an acceptance

-- what a write through a slice leaves
pub refilled : (ps qs : List ProposalValue) (k : ℕ) (q : ProposalValue) → qs ≡ ps
    → refill (length ps) ps (slice_set qs k q) ≡ slice_set ps k q
refilled ps qs k q is =
    take_at (slice_set qs k q) (drop (length (slice_set qs k q)) ps) (length ps) (length-set qs k q ∙ ap length is)
    ∙ ap (λ (l : List ProposalValue). slice_set l k q) is

module _ (set : List Member) (node i : ℕ) where
  -- the first proposal at the position, by its index
  pub found-at : (ps : List ProposalValue) (k : ℕ) (d : ProposalValue) → k < length ps
      → eqb (get_or ps k d).position i ≡ true → ((j : ℕ) → j < k → eqb (get_or ps j d).position i ≡ false)
      → (proposal_at i ps ≡ Some (get_or ps k d))
      × (slice_set ps k (heard set node (get_or ps k d)) ≡ heard_at set node i ps)
  found-at [] k d in' t before = absurd (omega arith)
  found-at (p ∷ ps) zero d in' t before = (rw t refl, rw t refl)
  found-at (p ∷ ps) (suc k) d in' t before =
      let rest = found-at ps k d (omega arith) t (λ j lt. before (suc j) (omega arith)) in
      let f : eqb p.position i ≡ false = before zero (omega arith) in
      (rw f rest.0, rw f (ap (λ l. p ∷ l) rest.1))

  pub positions-heard : (ps : List ProposalValue) → positions (heard_at set node i ps) ≡ positions ps
  positions-heard [] = refl
  positions-heard (p ∷ ps) =
      elim (cases_Bool (eqb p.position i))
      [ inl t ↦ rw t refl | inr f ↦ rw f (ap (λ l. p.position ∷ l) (positions-heard ps)) ]

-- a proposal that keeps its position keeps all positions
pub positions-set : (ps : List ProposalValue) (k : ℕ) (d q : ProposalValue) → k < length ps
    → q.position ≡ (get_or ps k d).position → positions (slice_set ps k q) ≡ positions ps
positions-set [] k d q in' same = absurd (omega arith)
positions-set (p ∷ ps) zero d q in' same = ap (λ n. n ∷ positions ps) same
positions-set (p ∷ ps) (suc k) d q in' same = ap (λ l. p.position ∷ l) (positions-set ps k d q (omega arith) same)

pub set-own : (ps : List ProposalValue) (k : ℕ) (d : ProposalValue) → slice_set ps k (get_or ps k d) ≡ ps
set-own [] k d = refl
set-own (p ∷ ps) zero d = refl
set-own (p ∷ ps) (suc k) d = ap (λ l. p ∷ l) (set-own ps k d)

place-below : (i : ℕ) (ps : List ProposalValue) (p : ProposalValue) → proposal_at i ps ≡ Some p
    → position_or_len (λ (q : ProposalValue). eqb q.position i) ps < length ps
place-below i [] p found = absurd (cc found)
place-below i (q ∷ ps) p found =
    elim (cases_Bool (eqb q.position i)) [
      | inl t ↦ rw t (omega arith)
      | inr f ↦ (let rest = place-below i ps p (rw f at found) in rw f (omega (arith, rest)))
    ]

-- where no index is found there is no proposal
pub not-found : (i : ℕ) (ps : List ProposalValue) (p : ProposalValue) → position (λ q. eqb q.position i) ps ≡ None
    → proposal_at i ps ≡ Some p → ⊥
not-found i ps p none found =
    let k : ℕ = position_or_len (λ (q : ProposalValue). eqb q.position i) ps in
    let within = rw (lt-ltb k (length ps) (place-below i ps p found)) at none in
    absurd (cc within)
