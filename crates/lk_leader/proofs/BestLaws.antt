-- The highest of the votes that promises tell of a position.
use Rattle.std.proofs.Common.{◌≡◌, ◌∙◌, ℕ, ◌+◌, ◌<◌, true, false, eqb, Some, None, List, [], ◌∷◌, ◌++◌, length, get_or}
use Rattle.std.proofs.Common.{take, map, filter, refl, ap, sym, subst, inl, inr, arith, append-nil}
use Rattle.std.proofs.lemmas.List.Elements.{Contains-append_left, Contains-push, Contains-push_cases}
use Rattle.std.proofs.lemmas.List.Concat.{flat_map-append}
use Rattle.lk_types.specs.BallotValue.{BallotValue}
use Rattle.lk_types.specs.Ballots.{IsBelow}
use Rattle.lk_types.specs.declared.member.Member.{Member}
use Rattle.lk_types.specs.declared.vote.Vote.{Vote}
use Rattle.lk_leader.specs.Terms.{ReceivedPromise}
use Rattle.lk_leader.specs.Values.{PromisedVote, IsNotAbove, IsBest, promised_by, promised_at, speaks_at, received_at}
use Rattle.lk_leader.proofs.MemberLaws.{map-push, filter-more, filter-same}

below-trans : (a b c : BallotValue) → IsBelow a b → IsBelow b c → IsBelow a c
below-trans a b c (inl h) (inl k) = inl (omega arith)
below-trans a b c (inl h) (inr k) = inl (omega (arith, k.0))
below-trans a b c (inr h) (inl k) = inl (omega (arith, h.0))
below-trans a b c (inr h) (inr k) = inr (h.0 ∙ k.0, omega (arith, h.1, k.1))

not_above-trans : (u t x : PromisedVote) → IsNotAbove u t → IsNotAbove t x → IsNotAbove u x
not_above-trans u t x (inl h) (inl k) = inl (below-trans u.vote.ballot t.vote.ballot x.vote.ballot h k)
not_above-trans u t x (inl h) (inr k) = inl (subst (IsBelow u.vote.ballot) k.0 h)
not_above-trans u t x (inr h) (inl k) = inl (subst (λ (b : BallotValue). IsBelow b x.vote.ballot) (sym h.0) k)
not_above-trans u t x (inr h) (inr k) = inr (h.0 ∙ k.0, omega (arith, h.1, k.1))

module _ (ts : List PromisedVote) (x : PromisedVote) where
  pub best-first : IsBest ts None → IsBest (ts ++ x ∷ []) (Some x)
  best-first none = record {
    among = Contains-push ts x;
    above = λ u h. elim (Contains-push_cases ts x u h) [
      | inl old ↦ absurd (omega (arith, old.1, ap length none))
      | inr is ↦ subst (λ (v : PromisedVote). IsNotAbove v x) is (inr (refl, omega arith))
    ];
  }

  pub best-kept : (t : PromisedVote) → IsBest ts (Some t) → IsNotAbove x t → IsBest (ts ++ x ∷ []) (Some t)
  best-kept t best below = record {
    among = Contains-append_left ts (x ∷ []) t best.among;
    above = λ u h. elim (Contains-push_cases ts x u h) [
      | inl old ↦ best.above u old
      | inr is ↦ subst (λ (v : PromisedVote). IsNotAbove v t) is below
    ];
  }

  pub best-raised : (t : PromisedVote) → IsBest ts (Some t) → IsNotAbove t x → IsBest (ts ++ x ∷ []) (Some x)
  best-raised t best below = record {
    among = Contains-push ts x;
    above = λ u h. elim (Contains-push_cases ts x u h) [
      | inl old ↦ not_above-trans u t x (best.above u old) below
      | inr is ↦ subst (λ (v : PromisedVote). IsNotAbove v x) is (inr (refl, omega arith))
    ];
  }

-- the promise with these votes
abbrev pub telling : ReceivedPromise → List Vote → ReceivedPromise
telling r votes = record { node = r.node; first = r.first; votes = votes }

module _ (i : ℕ) (r : ReceivedPromise) (k : ℕ) (x : Vote) (in' : k < length r.votes) (is : x ≡ get_or r.votes k x) where
  -- one vote more, where it is for the position
  pub told-more : eqb x.position i ≡ true
      → promised_by i (telling r (take (k + 1) r.votes)) ≡ promised_by i (telling r (take k r.votes))
      ++ record { node = r.node; vote = x } ∷ []
  told-more t =
      let make : Vote → PromisedVote = λ (y : Vote). record { node = r.node; vote = y } in
      ap (map make) (filter-more (λ (y : Vote). eqb y.position i) r.votes k x in' is t)
      ∙ map-push make (filter (λ (y : Vote). eqb y.position i) (take k r.votes)) (x ∷ [])

  pub told-same : eqb x.position i ≡ false
      → promised_by i (telling r (take (k + 1) r.votes)) ≡ promised_by i (telling r (take k r.votes))
  told-same f =
      let make : Vote → PromisedVote = λ (y : Vote). record { node = r.node; vote = y } in
      ap (map make) (filter-same (λ (y : Vote). eqb y.position i) r.votes k x in' is f)

told-single : (i : ℕ) (r : ReceivedPromise) → promised_at i (r ∷ []) ≡ promised_by i r
told-single i r = simp append-nil

module _ (set : List Member) (i : ℕ) (rs : List ReceivedPromise) (k : ℕ) (r : ReceivedPromise) (in' : k < length rs)
    (is : r ≡ get_or rs k r) where
  -- one promise more, where it counts
  pub promised_at-more : speaks_at set i r ≡ true
      → promised_at i (received_at set i (take (k + 1) rs)) ≡ promised_at i (received_at set i
      (take k rs)) ++ promised_by i r
  promised_at-more t =
      ap (promised_at i) (filter-more (speaks_at set i) rs k r in' is t)
      ∙ flat_map-append (promised_by i) (received_at set i (take k rs)) (r ∷ [])
      ∙ ap (λ l. promised_at i (received_at set i (take k rs)) ++ l) (told-single i r)

  pub promised_at-same : speaks_at set i r ≡ false
      → promised_at i (received_at set i (take (k + 1) rs)) ≡ promised_at i (received_at set i (take k rs))
  promised_at-same f = ap (promised_at i) (filter-same (speaks_at set i) rs k r in' is f)
