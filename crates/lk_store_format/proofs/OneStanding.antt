-- Entries stand for one thing.
use Rattle.std.proofs.Common.{◌≡◌, ℕ, ◌<◌, ◌≤◌, inl, inr, true, false, ltb, eqb, List, [], ◌∷◌, Some, None, refl, sym}
use Rattle.std.proofs.Common.{ap, subst, ◌∙◌, arith}
use Rattle.std.proofs.lemmas.Bool.{and_parts, and_from, ltb-true, lt-ltb, eq-eqb, ne_eqb, cases_order}
use Rattle.lk_types.specs.declared.command.Command.{Command}
use Rattle.lk_types.specs.declared.vote.Vote.{Vote}
use Rattle.lk_types.specs.Votes.{are_votes_above}
use Rattle.lk_store_format.specs.Entries.{are_pairs_above}
use Rattle.lk_store_format.specs.Standings.{vote_at, decided_at, HasSnapshot, StandsFor}
use Rattle.lk_store_format.specs.Values.{StandingValue}
use Rattle.lk_store_format.specs.declared.stored.Stored.{Stored}
use Rattle.lk_store_format.specs.declared.stored.Stored.TheVariants.{Base, Plain}

-- ---- votes

above : (low : ℕ) (v : Vote) (vs : List Vote) → are_votes_above low (v ∷ vs) ≡ true
    → (low < v.position) × (are_votes_above v.position vs ≡ true)
above low v vs e = let b = and_parts (ltb low v.position) (are_votes_above v.position vs) e in
    (ltb-true low v.position b.0, b.1)

none_at : (i low : ℕ) (vs : List Vote) → are_votes_above low vs ≡ true → i ≤ low → vote_at i vs ≡ None
none_at i low [] e h = refl
none_at i low (v ∷ vs) e h =
    let b = above low v vs e in
    let other : eqb v.position i ≡ false = ne_eqb v.position i (λ same. omega (arith, b.0)) in
    rw other (none_at i v.position vs b.1 (omega (arith, b.0)))

here : (v : Vote) (vs : List Vote) → vote_at v.position (v ∷ vs) ≡ Some v
here v vs = let same = eq-eqb v.position v.position refl in rw same refl

behind : (i : ℕ) (v : Vote) (vs : List Vote) → v.position < i → vote_at i (v ∷ vs) ≡ vote_at i vs
behind i v vs lt = let other : eqb v.position i ≡ false = ne_eqb v.position i (λ same. omega arith) in rw other refl

none_is_some : {X : Type 0} (x : X) → None ≡ Some x → ⊥
none_is_some x e = cc e

some_is : {X : Type 0} (x y : X) → Some x ≡ Some y → x ≡ y
some_is x y e = cc e

pub one_list : (low : ℕ) (vs ws : List Vote) → are_votes_above low vs ≡ true → are_votes_above low ws ≡ true
    → ((i : ℕ) → low < i → vote_at i vs ≡ vote_at i ws) → vs ≡ ws
one_list low [] [] a b h = refl
one_list low [] (w ∷ ws) a b h = absurd (none_is_some w (h w.position (above low w ws b).0 ∙ here w ws))
one_list low (v ∷ vs) [] a b h = absurd (none_is_some v (sym (h v.position (above low v vs a).0) ∙ here v vs))
one_list low (v ∷ vs) (w ∷ ws) a b h =
    let av = above low v vs a in
    let bw = above low w ws b in
    elim (cases_order v.position w.position) [
      | inl same ↦
          let e : v ≡ w = some_is v w
          (sym (here v vs) ∙ h v.position av.0 ∙ ap (λ (i : ℕ). vote_at i (w ∷ ws)) same ∙ here w ws) in
          let rest : vs ≡ ws = one_list v.position vs ws av.1
          (subst (λ (p : ℕ). are_votes_above p ws ≡ true) (sym same) bw.1)
          (λ i lt. sym (behind i v vs lt) ∙ h i (omega (arith, av.0, lt)) ∙ behind i w ws (omega (arith, same, lt))) in
          λ i. e i ∷ rest i
      | inr (inl less) ↦ absurd
          (none_is_some v (sym (sym (here v vs) ∙ h v.position av.0
          ∙ none_at v.position v.position (w ∷ ws)
          (and_from _ _ (lt-ltb v.position w.position less) bw.1) (omega arith))))
      | inr (inr more) ↦ absurd
          (none_is_some w (sym (sym (here w ws) ∙ sym (h w.position bw.0)
          ∙ none_at w.position w.position (v ∷ vs)
          (and_from _ _ (lt-ltb w.position v.position more) av.1) (omega arith))))
    ]

-- ---- pairs

pair_above : (low : ℕ) (p : ℕ × Command) (ps : List (ℕ × Command)) → are_pairs_above low (p ∷ ps) ≡ true
    → (low < p.0) × (are_pairs_above p.0 ps ≡ true)
pair_above low p ps e = let b = and_parts (ltb low p.0) (are_pairs_above p.0 ps) e in (ltb-true low p.0 b.0, b.1)

none_decided : (i low : ℕ) (ps : List (ℕ × Command)) → are_pairs_above low ps ≡ true → i ≤ low → decided_at i ps ≡ None
none_decided i low [] e h = refl
none_decided i low (p ∷ ps) e h =
    let b = pair_above low p ps e in
    let other : eqb p.0 i ≡ false = ne_eqb p.0 i (λ same. omega (arith, b.0)) in
    rw other (none_decided i p.0 ps b.1 (omega (arith, b.0)))

pair_here : (p : ℕ × Command) (ps : List (ℕ × Command)) → decided_at p.0 (p ∷ ps) ≡ Some p.1
pair_here p ps = let same = eq-eqb p.0 p.0 refl in rw same refl

pair_behind : (i : ℕ) (p : ℕ × Command) (ps : List (ℕ × Command)) → p.0 < i → decided_at i (p ∷ ps) ≡ decided_at i ps
pair_behind i p ps lt = let other : eqb p.0 i ≡ false = ne_eqb p.0 i (λ same. omega arith) in rw other refl

pub one_pairs : (low : ℕ) (ps qs : List (ℕ × Command)) → are_pairs_above low ps ≡ true → are_pairs_above low qs ≡ true
    → ((i : ℕ) → low < i → decided_at i ps ≡ decided_at i qs) → ps ≡ qs
one_pairs low [] [] a b h = refl
one_pairs low [] (q ∷ qs) a b h = absurd (none_is_some q.1 (h q.0 (pair_above low q qs b).0 ∙ pair_here q qs))
one_pairs low (p ∷ ps) [] a b h = absurd (none_is_some p.1 (sym (h p.0 (pair_above low p ps a).0) ∙ pair_here p ps))
one_pairs low (p ∷ ps) (q ∷ qs) a b h =
    let av = pair_above low p ps a in
    let bw = pair_above low q qs b in
    elim (cases_order p.0 q.0) [
      | inl same ↦
          let e : p.1 ≡ q.1 = some_is p.1 q.1
          (sym (pair_here p ps) ∙ h p.0 av.0 ∙ ap (λ (i : ℕ). decided_at i (q ∷ qs)) same ∙ pair_here q qs) in
          let rest : ps ≡ qs = one_pairs p.0 ps qs av.1 (subst (λ (k : ℕ). are_pairs_above k qs ≡ true) (sym same) bw.1)
          (λ i lt. sym (pair_behind i p ps lt) ∙ h i (omega (arith, av.0, lt))
          ∙ pair_behind i q qs (omega (arith, same, lt))) in
          λ i. (same i, e i) ∷ rest i
      | inr (inl less) ↦ absurd
          (none_is_some p.1 (sym (sym (pair_here p ps) ∙ h p.0 av.0
          ∙ none_decided p.0 p.0 (q ∷ qs) (and_from _ _ (lt-ltb p.0 q.0 less) bw.1) (omega arith))))
      | inr (inr more) ↦ absurd
          (none_is_some q.1 (sym (sym (pair_here q qs) ∙ sym (h q.0 bw.0)
          ∙ none_decided q.0 q.0 (p ∷ ps) (and_from _ _ (lt-ltb q.0 p.0 more) av.1) (omega arith))))
    ]

-- ---- the standing

same_snapshot : (es : List Stored) (s t : StandingValue) → HasSnapshot es s → HasSnapshot es t
    → (s.position ≡ t.position) × (s.snapshot ≡ t.snapshot)
same_snapshot [] s t a b = absurd a
same_snapshot (Base x ∷ es) s t a b = (a.0 ∙ sym b.0, a.1 ∙ sym b.1)
same_snapshot (Plain x ∷ es) s t a b = absurd a

pub one_standing : (es : List Stored) (s t : StandingValue) → StandsFor es s → StandsFor es t → s ≡ t
one_standing es s t a b =
    let same = same_snapshot es s t a.snapshot b.snapshot in
    let promised = a.promised ∙ sym b.promised in
    let votes : s.votes ≡ t.votes =
    one_list s.position s.votes t.votes a.votes_rise
    (subst (λ (p : ℕ). are_votes_above p t.votes ≡ true) (sym same.0) b.votes_rise)
    (λ i lt. a.votes i lt ∙ sym (b.votes i (omega (arith, same.0, lt)))) in
    let pairs : s.pairs ≡ t.pairs =
    one_pairs s.position s.pairs t.pairs a.pairs_rise
    (subst (λ (p : ℕ). are_pairs_above p t.pairs ≡ true) (sym same.0) b.pairs_rise)
    (λ i lt. a.pairs i lt ∙ sym (b.pairs i (omega (arith, same.0, lt)))) in
    λ i. record { promised = promised i; position = same.0 i; snapshot = same.1 i; votes = votes i; pairs = pairs i }
