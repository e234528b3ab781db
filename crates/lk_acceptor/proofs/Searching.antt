-- Where votes of rising positions are found.
use Rattle.std.proofs.Common.{◌≡◌, ◌≢◌, ◌∙◌, ℕ, zero, suc, ◌-◌, ◌<◌, ◌≤◌, Bool, cond, true, false, ltb, leb, eqb}
use Rattle.std.proofs.Common.{nat_lt, nat_le, List, [], ◌∷◌, length, get_or, take, drop, Contains, Option, Some, None}
use Rattle.std.proofs.Common.{Bor, filter, refl, sym, ap, subst, inl, inr, arith}
use Rattle.std.specs.Prelude.{slice_get, ◌&&◌, ◌↔◌, IsTrue, MatchOption}
use Rattle.std.specs.Bool.{then_some}
use Rattle.std.specs.List.{AllByRecursion, list_all}
use Rattle.std.specs.List.Sorted.{IsNonDecreasingBy, IsPartitionPoint}
use Rattle.std.proofs.lemmas.Bool.{false≢true, eqb-true, eq-eqb, cases_Bool, ltb-true, ltb-false, lt-ltb, le-leb}
use Rattle.std.proofs.lemmas.Bool.{and_from}
use Rattle.std.proofs.lemmas.Bool.Decides.{nat_tests}
use Rattle.std.proofs.lemmas.List.{take_all, length-drop}
use Rattle.std.proofs.lemmas.Option.{slice_get_within, get_or_from_slice_get}
use Rattle.lk_types.specs.Ballots.{is_below}
use Rattle.lk_types.specs.Votes.{IsVote, are_votes_above}
use Rattle.lk_types.specs.declared.vote.Vote.{Vote}
use Rattle.lk_agreement_laws.proofs.Histories.{cons_cases, contains_more, filter_from}
use Rattle.lk_store_format.specs.VoteLists.{AreRising, count_below, votes_with}
use Rattle.lk_store_format.proofs.VoteParts.{rising_parts}
use Rattle.lk_acceptor.specs.Replies.{Agrees}
use Rattle.lk_acceptor.specs.VoteLists.{IsVoteAt, HasVoteFrom, votes_from, votes_above}
use Rattle.lk_acceptor.proofs.Rising.{first, rising_all, from_is_from}

-- ---- the vote at a position

found_from : (low i : ℕ) (vs : List Vote) (v : Vote) → are_votes_above low vs ≡ true → IsVoteAt i vs v
    → slice_get vs (count_below i vs) ≡ Some v
found_from low i [] v e at = absurd (omega (arith, at.0.1))
found_from low i (w ∷ ws) v e at =
    let b = rising_parts low w ws e in
    elim (cases_Bool (ltb w.position i)) [
      | inl before ↦ elim (cons_cases w ws v at.0) [
        | inl same ↦ absurd (omega (arith, ltb-true w.position i before, ap (λ (x : Vote). x.position) same, at.1))
        | inr later ↦ rw before (found_from w.position i ws v b.1 (later, at.1))
      ]
      | inr behind ↦ elim (cons_cases w ws v at.0) [
        | inl same ↦ rw behind (ap Some same)
        | inr later ↦ absurd (omega (arith, ltb-false w.position i behind, rising_all w.position ws b.1 v later, at.1))
      ]
    ]

-- it stands after those below it
pub found : (i : ℕ) (vs : List Vote) (v : Vote) → AreRising vs → IsVoteAt i vs v
    → slice_get vs (count_below i vs) ≡ Some v
found i vs v rising at = found_from rising.0 i vs v rising.1 at

-- there is one vote at a position
pub found_once : (i : ℕ) (vs : List Vote) (v w : Vote) → AreRising vs → IsVoteAt i vs v → IsVoteAt i vs w → w ≡ v
found_once i vs v w rising at other = cc (found i vs v rising at, found i vs w rising other)

-- what stands there is one of the votes
stands : (i n : ℕ) (vs : List Vote) (v : Vote) → slice_get vs n ≡ Some v → v.position ≡ i → IsVoteAt i vs v
stands i n vs v e at = ((n, slice_get_within vs n v e, get_or_from_slice_get vs n v v e), at)

pub none_stands : (i n : ℕ) (vs : List Vote) → AreRising vs → n ≡ count_below i vs → length vs ≤ n
    → (v : Vote) → IsVoteAt i vs v → ⊥
none_stands i n vs rising is past v at =
    let short = slice_get_within vs (count_below i vs) v (found i vs v rising at) in omega (arith, is, past, short)

-- it is the vote at the position, if its position is that
pub one_stands : (i n : ℕ) (vs : List Vote) (b : Bor Vote) (t : Bool) → AreRising vs → n ≡ count_below i vs
    → slice_get vs n ≡ Some b.now → t ≡ eqb b.now.position i
    → MatchOption (then_some t b) ((v : Vote) → IsVoteAt i vs v → ⊥)
    (λ v. IsVoteAt i vs v.now × ((w : Vote) → IsVoteAt i vs w → w ≡ v.now))
one_stands i n vs b true rising is at same =
    let stands' : IsVoteAt i vs b.now = stands i n vs b.now at (eqb-true b.now.position i (sym same)) in
    (stands', λ w other. found_once i vs b.now w rising stands' other)
one_stands i n vs b false rising is at same = λ v other.
    let here : Some b.now ≡ Some v = sym at ∙ ap (slice_get vs) is ∙ found i vs v rising other in
    let v_is : b.now ≡ v = cc here in
    absurd (false≢true (same ∙ eq-eqb b.now.position i (ap (λ (x : Vote). x.position) v_is ∙ other.1)))

-- ---- what the vote at a position tells of all

module _ (vs : List Vote) (x v : Vote) (at : IsVoteAt x.position vs v)
    (only : (w : Vote) → IsVoteAt x.position vs w → w ≡ v) where
  -- it decides whether a vote is one of them
  pub held_by : (t : Bool) → IsTrue t ↔ (v ≡ x) → IsTrue t ↔ Contains vs x
  held_by t is = (λ yes'. subst (Contains vs) (is.0 yes') at.0, λ h. is.1 (sym (only x (h, refl))))

  -- and whether all agree with one
  pub agree_by : (t : Bool) → IsTrue t ↔ Agrees v x → IsTrue t ↔ ((w : Vote) → Contains vs w → Agrees w x)
  agree_by t is = (
    λ yes' w h same. subst (λ (u : Vote). u.ballot ≡ x.ballot → u.command ≡ x.command)
        (sym (only w (h, same))) (is.0 yes' at.1),
    λ all. is.1 (all v at.0),
  )

-- where the last vote is below the end, all are
last_from : (low end : ℕ) (vs : List Vote) (v : Vote) → are_votes_above low vs ≡ true
    → slice_get vs (length vs - 1) ≡ Some v → nat_lt v.position end ≡ list_all (λ w. nat_lt w.position end) vs
last_from low end [] v e is = absurd (cc is)
last_from low end (w ∷ []) v e is = alone w v (cc is)
  where
    with_none : (t : Bool) → t ≡ (t && true)
    with_none true = refl
    with_none false = refl

    alone : (w v : Vote) → w ≡ v → nat_lt v.position end ≡ list_all (λ u. nat_lt u.position end) (w ∷ [])
    alone w v same = subst (λ (x : Vote). nat_lt x.position end ≡ list_all (λ u. nat_lt u.position end) (w ∷ [])) same
        (with_none (nat_lt w.position end))
last_from low end (w ∷ x ∷ xs) v e is =
    let b = rising_parts low w (x ∷ xs) e in
    let behind : length (w ∷ x ∷ xs) - 1 ≡ suc (length (x ∷ xs) - 1) = omega arith in
    let same : slice_get (x ∷ xs) (length (x ∷ xs) - 1) ≡ Some v =
    subst (λ (k : ℕ). slice_get (w ∷ x ∷ xs) k ≡ Some v) behind is in
    let rest = last_from w.position end (x ∷ xs) v b.1 same in
    let here : w.position < v.position =
    rising_all w.position (x ∷ xs) b.1 v (
      length (x ∷ xs) - 1,
      slice_get_within (x ∷ xs) (length (x ∷ xs) - 1) v same,
      get_or_from_slice_get (x ∷ xs) (length (x ∷ xs) - 1) v v same,
    ) in
    elim (cases_Bool (nat_lt v.position end)) [
      | inl below ↦
          (let too = lt-ltb w.position end (omega (arith, here, ltb-true v.position end below)) in rw too rest)
      | inr not_below ↦ elim (cases_Bool (nat_lt w.position end)) [
        | inl too ↦ rw too rest
        | inr not_too ↦ rw (not_below, not_too) refl
      ]
    ]

pub last_tells : (end : ℕ) (vs : List Vote) (v : Vote) → AreRising vs → slice_get vs (length vs - 1) ≡ Some v
    → nat_lt v.position end ≡ list_all (λ w. nat_lt w.position end) vs
last_tells end vs v rising is = last_from rising.0 end vs v rising.1 is

-- ---- the votes from a position on

-- they stand after those below it
rest_from : (low i : ℕ) (vs : List Vote) → are_votes_above low vs ≡ true → drop (count_below i vs) vs ≡ votes_from i vs
rest_from low i [] e = refl
rest_from low i (w ∷ ws) e =
    let b = rising_parts low w ws e in
    elim (cases_Bool (nat_lt w.position i)) [
      | inl before ↦ (let out : nat_le i w.position ≡ false = lt_leb w.position i (ltb-true w.position i before) in
          rw (before, out) (rest_from w.position i ws b.1))
      | inr behind ↦ rw behind (sym (all_from w.position i (w ∷ ws) (λ v h. elim (cons_cases w ws v h) [
        | inl same ↦ omega (arith, ap (λ (x : Vote). x.position) same, ltb-false w.position i behind)
        | inr later ↦ omega (arith, rising_all w.position ws b.1 v later, ltb-false w.position i behind)
      ])))
    ]
  where
    lt_leb : (a b : ℕ) → a < b → leb b a ≡ false
    lt_leb a b less = grind (arith, nat_tests)

    all_from : (low i : ℕ) (vs : List Vote) → ((v : Vote) → Contains vs v → i ≤ v.position) → votes_from i vs ≡ vs
    all_from low i [] all = refl
    all_from low i (v ∷ vs) all = let in' = le-leb i v.position (all v (first v vs)) in
        rw in' (ap (λ (l : List Vote). v ∷ l) (all_from low i vs (λ w h. all w (contains_more v vs w h))))

-- as the code takes them
pub rest_is_from : (i n : ℕ) (vs : List Vote) → AreRising vs → n ≡ count_below i vs
    → take (length vs - n) (drop n vs) ≡ votes_from i vs
rest_is_from i n vs rising is =
    take_all (length vs - n) (drop n vs) (omega (arith, length-drop n vs)) ∙ ap (λ (k : ℕ). drop k vs) is
    ∙ rest_from rising.0 i vs rising.1

-- each of them is at the position or above it
pub rest_has : (i n k : ℕ) (vs : List Vote) (v : Vote) → AreRising vs → n ≡ count_below i vs
    → k < length (take (length vs - n) (drop n vs))
    → get_or (take (length vs - n) (drop n vs)) k v ≡ v → HasVoteFrom i vs
rest_has i n k vs v rising is short at =
    let listed : Contains (votes_from i vs) v =
    subst (λ (l : List Vote). Contains l v) (rest_is_from i n vs rising is) (k, short, at) in
    (v, filter_from (λ (w : Vote). nat_le i w.position) vs v listed, from_is_from i vs v listed)

-- ---- each is in its range

pub ranges_with : (v : Vote) (vs : List Vote) → IsVote v → AllByRecursion IsVote vs
    → AllByRecursion IsVote (votes_with v vs)
ranges_with v [] fits all = (fits, tt)
ranges_with v (w ∷ ws) fits all =
    at (ltb w.position v.position) (eqb w.position v.position) (is_below w.ballot v.ballot)
    (ranges_with v ws fits all.1)
  where
    at : (l s b : Bool) → AllByRecursion IsVote (votes_with v ws)
        → AllByRecursion IsVote (cond l (w ∷ votes_with v ws) (cond s (cond b v w ∷ ws) (v ∷ w ∷ ws)))
    at true s b rest = (all.0, rest)
    at false true true rest = (fits, all.1)
    at false true false rest = all
    at false false b rest = (fits, all)

pub ranges_above : (i : ℕ) (vs : List Vote) → AllByRecursion IsVote vs → AllByRecursion IsVote (votes_above i vs)
ranges_above i [] all = tt
ranges_above i (v ∷ vs) all = at (ltb i v.position) (ranges_above i vs all.1)
  where
    at : (t : Bool) → AllByRecursion IsVote (votes_above i vs)
        → AllByRecursion IsVote (cond t (v ∷ votes_above i vs) (votes_above i vs))
    at true rest = (all.0, rest)
    at false rest = rest
