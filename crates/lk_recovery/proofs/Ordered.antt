-- The votes that entries stand for are in order, and none is in a ballot above the promised one.
use Rattle.std.proofs.Common.{◌≡◌, ℕ, ◌<◌, ◌⊎◌, inl, inr, Bool, true, false, cond, eqb, ltb, List, [], ◌∷◌, map, Option}
use Rattle.std.proofs.Common.{Some, None, Contains, refl, sym, ap, ◌∙◌, subst, arith}
use Rattle.std.proofs.lemmas.Bool.{and_parts, ltb-true, eq-eqb, ne_eqb}
use Rattle.std.proofs.lemmas.List.Elements.{Contains-append_left, Contains-append_right, Contains-append_cases}
use Rattle.lk_types.specs.BallotValue.{BallotValue}
use Rattle.lk_types.specs.Ballots.{IsAtMost, is_below, zero_ballot}
use Rattle.lk_types.specs.declared.entry.Entry.TheVariants.{Promise, Vote, Decided}
use Rattle.lk_types.specs.declared.vote.Vote.{Vote as VoteValue}
use Rattle.lk_types.proofs.Values.{below_by_test, at_most_by_test}
use Rattle.lk_types.specs.Votes.{are_votes_above}
use Rattle.lk_store_format.specs.Standings.{greater, greatest_of, ballot_of, ballots_in, ballots, votes_in, all_votes}
use Rattle.lk_store_format.specs.Standings.{better, best_from, best_vote, vote_at, StandsFor}
use Rattle.lk_store_format.specs.Values.{StandingValue}
use Rattle.lk_store_format.specs.declared.stored.Stored.{Stored}
use Rattle.lk_store_format.specs.declared.stored.Stored.TheVariants.{Base, Plain}
use Rattle.lk_agreement_laws.proofs.Histories.{at_most_trans}
use Rattle.lk_acceptor.specs.States.{IsOrdered}
use Rattle.lk_node.specs.Leavings.{acceptor_of}
use Rattle.lk_node.proofs.Nodes.{cons_cases, contains_more}

-- ---- the greatest ballot

greater_left : (a b : BallotValue) → IsAtMost a (greater a b)
greater_left a b = by_test (is_below a b) refl
  where
    by_test : (t : Bool) → is_below a b ≡ t → IsAtMost a (cond t b a)
    by_test true e = inl (below_by_test a b e)
    by_test false e = inr refl

greater_right : (a b : BallotValue) → IsAtMost b (greater a b)
greater_right a b = by_test (is_below a b) refl
  where
    by_test : (t : Bool) → is_below a b ≡ t → IsAtMost b (cond t b a)
    by_test true e = inr refl
    by_test false e = at_most_by_test a b e

greatest_first : (b : BallotValue) (cs : List BallotValue) → IsAtMost b (greatest_of b cs)
greatest_first b [] = inr refl
greatest_first b (c ∷ cs) =
    at_most_trans b (greater b c) (greatest_of (greater b c) cs) (greater_left b c) (greatest_first (greater b c) cs)

greatest_bounds : (b : BallotValue) (cs : List BallotValue) (c : BallotValue) → Contains cs c
    → IsAtMost c (greatest_of b cs)
greatest_bounds b [] c h = absurd (omega (arith, h.1))
greatest_bounds b (d ∷ ds) c h = elim (cons_cases d ds c h) [
  | inl same ↦ subst (λ (x : BallotValue). IsAtMost x (greatest_of (greater b d) ds)) same
      (at_most_trans d (greater b d) (greatest_of (greater b d) ds) (greater_right b d)
      (greatest_first (greater b d) ds))
  | inr later ↦ greatest_bounds (greater b d) ds c later
]

-- ---- a vote of the entries has one of their ballots

mapped : (vs : List VoteValue) (v : VoteValue) → Contains vs v → Contains (map ballot_of vs) v.ballot
mapped [] v h = absurd (omega (arith, h.1))
mapped (w ∷ ws) v h = elim (cons_cases w ws v h) [
  | inl same ↦ (0, omega arith, ap (λ (x : VoteValue). x.ballot) same)
  | inr later ↦ contains_more w.ballot (map ballot_of ws) v.ballot (mapped ws v later)
]

ballot_in : (e : Stored) (v : VoteValue) → Contains (votes_in e) v → Contains (ballots_in e) v.ballot
ballot_in (Base b) v h =
    contains_more b.standing.promised (map ballot_of b.standing.votes) v.ballot (mapped b.standing.votes v h)
ballot_in (Plain (Promise b)) v h = absurd (omega (arith, h.1))
ballot_in (Plain (Vote w)) v h =
    elim (cons_cases w [] v h)
    [ inl same ↦ (0, omega arith, ap (λ (x : VoteValue). x.ballot) same) | inr none ↦ absurd (omega (arith, none.1)) ]
ballot_in (Plain (Decided i c)) v h = absurd (omega (arith, h.1))

ballot_among : (es : List Stored) (v : VoteValue) → Contains (all_votes es) v → Contains (ballots es) v.ballot
ballot_among [] v h = absurd (omega (arith, h.1))
ballot_among (e ∷ es) v h = elim (Contains-append_cases (votes_in e) (all_votes es) v h) [
  | inl here ↦ Contains-append_left (ballots_in e) (ballots es) v.ballot (ballot_in e v here)
  | inr later ↦ Contains-append_right (ballots_in e) (ballots es) v.ballot (ballot_among es v later)
]

-- ---- the best vote at a position is one of the votes

some_is : (v w : VoteValue) → Some v ≡ Some w → v ≡ w
some_is v w e = cc e

better_from : (o : Option VoteValue) (w v : VoteValue) → better o w ≡ Some v → (o ≡ Some v) ⊎ (w ≡ v)
better_from None w v e = inr (some_is w v e)
better_from (Some u) w v e = by_test (is_below u.ballot w.ballot) e
  where
    by_test : (t : Bool) → cond t (Some w) (Some u) ≡ Some v → (Some u ≡ Some v) ⊎ (w ≡ v)
    by_test true e = inr (some_is w v e)
    by_test false e = inl e

best_among : (i : ℕ) (o : Option VoteValue) (vs : List VoteValue) (v : VoteValue) → best_from i o vs ≡ Some v
    → (o ≡ Some v) ⊎ Contains vs v
best_among i o [] v e = inl e
best_among i o (w ∷ ws) v e = by_place (eqb w.position i) (best_among i (cond (eqb w.position i) (better o w) o) ws v e)
  where
    by_place : (t : Bool) → (cond t (better o w) o ≡ Some v) ⊎ Contains ws v → (o ≡ Some v) ⊎ Contains (w ∷ ws) v
    by_place t (inr later) = inr (contains_more w ws v later)
    by_place false (inl was) = inl was
    by_place true (inl now) = elim (better_from o w v now) [ inl was ↦ inl was | inr same ↦ inr (0, omega arith, same) ]

-- ---- a list that rises has each vote at its position

rising_parts : (low : ℕ) (v : VoteValue) (vs : List VoteValue) → are_votes_above low (v ∷ vs) ≡ true
    → (low < v.position) × (are_votes_above v.position vs ≡ true)
rising_parts low v vs e = let b = and_parts (ltb low v.position) (are_votes_above v.position vs) e in
    (ltb-true low v.position b.0, b.1)

rising_all : (low : ℕ) (vs : List VoteValue) → are_votes_above low vs ≡ true → (v : VoteValue)
    → Contains vs v → low < v.position
rising_all low [] e v h = absurd (omega (arith, h.1))
rising_all low (w ∷ ws) e v h =
    let b = rising_parts low w ws e in
    elim (cons_cases w ws v h) [
      | inl same ↦ subst (λ (x : VoteValue). low < x.position) same b.0
      | inr later ↦ (let k = rising_all w.position ws b.1 v later in omega (arith, k, b.0))
    ]

at_its_place : (low : ℕ) (vs : List VoteValue) → are_votes_above low vs ≡ true → (v : VoteValue) → Contains vs v
    → vote_at v.position vs ≡ Some v
at_its_place low [] e v h = absurd (omega (arith, h.1))
at_its_place low (w ∷ ws) e v h =
    let b = rising_parts low w ws e in
    elim (cons_cases w ws v h) [
      | inl same ↦ (let here : eqb w.position v.position ≡ true =
          eq-eqb w.position v.position (ap (λ (x : VoteValue). x.position) same) in rw here (ap Some same))
      | inr later ↦ (let k = rising_all w.position ws b.1 v later in
          let other : eqb w.position v.position ≡ false = ne_eqb w.position v.position (λ is. omega (arith, k, is)) in
          rw other (at_its_place w.position ws b.1 v later))
    ]

-- ---- a standing

pub standing_ordered : (es : List Stored) (s : StandingValue) → StandsFor es s → IsOrdered (acceptor_of s)
standing_ordered es s stands = record {
  rising = stands.votes_rise;
  promised = λ v h. subst (IsAtMost v.ballot) (sym stands.promised)
      (greatest_bounds zero_ballot (ballots es) v.ballot (ballot_among es v (among v h)));
}
  where
    among : (v : VoteValue) → Contains s.votes v → Contains (all_votes es) v
    among v h =
        let above = rising_all s.position s.votes stands.votes_rise v h in
        let best : best_vote v.position (all_votes es) ≡ Some v = sym (stands.votes v.position above)
        ∙ at_its_place s.position s.votes stands.votes_rise v h in
        elim (best_among v.position None (all_votes es) v best) [ inl none ↦ absurd (cc none) | inr c ↦ c ]
