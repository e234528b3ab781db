-- What becomes of the votes with one more, and which states are kept.
use Rattle.std.proofs.Common.{◌≡◌, ℕ, ◌<◌, ◌≤◌, ◌⊎◌, inl, inr, Bool, true, false, cond, ltb, eqb, nat_lt, List, [], ◌∷◌}
use Rattle.std.proofs.Common.{Contains, refl, sym, ap, subst, ◌∙◌, arith}
use Rattle.std.proofs.lemmas.Bool.{eqb-true, lt-ltb, false≢true}
use Rattle.std.proofs.lemmas.Bool.Decides.{nat_tests}
use Rattle.lk_types.specs.BallotValue.{BallotValue}
use Rattle.lk_types.specs.Ballots.{IsBelow, IsAtMost, is_below}
use Rattle.lk_types.specs.declared.vote.Vote.{Vote}
use Rattle.lk_types.proofs.Values.{test_of_below}
use Rattle.lk_types.specs.Votes.{are_votes_above}
use Rattle.lk_agreement_laws.specs.Acceptors.{AcceptorState, AddsVote, ForgetsVotes}
use Rattle.lk_agreement_laws.specs.Changes.{with_promise}
use Rattle.lk_agreement_laws.proofs.Histories.{at_most_trans, below_at_most, below_self, cons_cases, contains_more}
use Rattle.lk_agreement_laws.proofs.Histories.{filter_from, filtered_takes_snapshot, only}
use Rattle.lk_acceptor.specs.Replies.{Agrees}
use Rattle.lk_acceptor.specs.States.{IsOrdered, with_vote, without_votes_to}
use Rattle.lk_store_format.specs.VoteLists.{votes_with}
use Rattle.lk_store_format.proofs.VoteParts.{rising_parts}
use Rattle.lk_acceptor.proofs.Rising.{first, rising_all, rising_with, above_rises}

-- ---- the votes with one more

-- each is that one, or was there
pub from_with : (v : Vote) (vs : List Vote) (y : Vote) → Contains (votes_with v vs) y → (v ≡ y) ⊎ Contains vs y
from_with v [] y h = inl (only v y h)
from_with v (w ∷ ws) y h =
    at (ltb w.position v.position) (eqb w.position v.position) (is_below w.ballot v.ballot) h (from_with v ws y)
  where
    at : (l s b : Bool) → Contains (cond l (w ∷ votes_with v ws) (cond s (cond b v w ∷ ws) (v ∷ w ∷ ws))) y
        → (Contains (votes_with v ws) y → (v ≡ y) ⊎ Contains ws y) → (v ≡ y) ⊎ Contains (w ∷ ws) y
    at true s b c rest = elim (cons_cases w (votes_with v ws) y c) [
      | inl e ↦ inr (subst (λ (x : Vote). Contains (w ∷ ws) x) e (first w ws))
      | inr d ↦ elim (rest d) [ inl e ↦ inl e | inr k ↦ inr (contains_more w ws y k) ]
    ]
    at false true true c rest = elim (cons_cases v ws y c) [ inl e ↦ inl e | inr d ↦ inr (contains_more w ws y d) ]
    at false true false c rest = inr c
    at false false b c rest = cons_cases v (w ∷ ws) y c

-- those of other positions stay
stays_with : (v : Vote) (vs : List Vote) (y : Vote) → Contains vs y → (y.position ≡ v.position → ⊥)
    → Contains (votes_with v vs) y
stays_with v [] y h ne = absurd (omega (arith, h.1))
stays_with v (w ∷ ws) y h ne =
    at (ltb w.position v.position) (eqb w.position v.position) (is_below w.ballot v.ballot) refl (cons_cases w ws y h)
    (λ c. stays_with v ws y c ne)
  where
    at : (l s b : Bool) → eqb w.position v.position ≡ s → (w ≡ y) ⊎ Contains ws y
        → (Contains ws y → Contains (votes_with v ws) y)
        → Contains (cond l (w ∷ votes_with v ws) (cond s (cond b v w ∷ ws) (v ∷ w ∷ ws))) y
    at true s b es (inl e) rest = subst (λ (x : Vote). Contains (w ∷ votes_with v ws) x) e (first w (votes_with v ws))
    at true s b es (inr c) rest = contains_more w (votes_with v ws) y (rest c)
    at false true b es (inl e) rest =
        absurd (ne (ap (λ (x : Vote). x.position) (sym e) ∙ eqb-true w.position v.position es))
    at false true true es (inr c) rest = contains_more v ws y c
    at false true false es (inr c) rest = contains_more w ws y c
    at false false b es (inl e) rest =
        contains_more v (w ∷ ws) y (subst (λ (x : Vote). Contains (w ∷ ws) x) e (first w ws))
    at false false b es (inr c) rest = contains_more v (w ∷ ws) y (contains_more w ws y c)

-- no vote at its position has a ballot that is as great, but itself
abbrev IsNew : Vote → List Vote → Type 0
IsNew v vs = (y : Vote) → Contains vs y → y.position ≡ v.position → IsBelow y.ballot v.ballot ⊎ (y ≡ v)

-- so it is among them
stands_with : (v : Vote) (vs : List Vote) → IsNew v vs → Contains (votes_with v vs) v
stands_with v [] new = first v []
stands_with v (w ∷ ws) new =
    at (ltb w.position v.position) (eqb w.position v.position) (is_below w.ballot v.ballot) refl refl
    (stands_with v ws (λ y c. new y (contains_more w ws y c)))
  where
    at : (l s b : Bool) → eqb w.position v.position ≡ s → is_below w.ballot v.ballot ≡ b → Contains (votes_with v ws) v
        → Contains (cond l (w ∷ votes_with v ws) (cond s (cond b v w ∷ ws) (v ∷ w ∷ ws))) v
    at true s b es eb rest = contains_more w (votes_with v ws) v rest
    at false true true es eb rest = first v ws
    at false true false es eb rest = elim (new w (first w ws) (eqb-true w.position v.position es)) [
      | inl lt ↦ absurd (false≢true (sym eb ∙ test_of_below w.ballot v.ballot lt))
      | inr e ↦ subst (λ (x : Vote). Contains (w ∷ ws) x) e (first w ws)
    ]
    at false false b es eb rest = first v (w ∷ ws)

not_below_self : (b : BallotValue) → is_below b b ≡ false
not_below_self b = grind (arith, nat_tests)

-- a vote that is among them changes nothing
pub with_kept : (low : ℕ) (v : Vote) (vs : List Vote) → are_votes_above low vs ≡ true
    → Contains vs v → votes_with v vs ≡ vs
with_kept low v [] e h = absurd (omega (arith, h.1))
with_kept low v (w ∷ ws) e h =
    let b = rising_parts low w ws e in
    elim (cons_cases w ws v h) [
      | inl same ↦ subst (λ (x : Vote). votes_with x (w ∷ ws) ≡ w ∷ ws) same (in_front w ws)
      | inr later ↦
          let less : ltb w.position v.position ≡ true =
          lt-ltb w.position v.position (rising_all w.position ws b.1 v later) in
          rw less (ap (λ (l : List Vote). w ∷ l) (with_kept w.position v ws b.1 later))
    ]
  where
    in_front : (w : Vote) (ws : List Vote) → votes_with w (w ∷ ws) ≡ w ∷ ws
    in_front w ws =
        let not_less : ltb w.position w.position ≡ false = grind (arith, nat_tests) in
        let same : eqb w.position w.position ≡ true = grind (arith, nat_tests) in
        let not_below : is_below w.ballot w.ballot ≡ false = not_below_self w.ballot in
        rw (not_less, same, not_below) refl

-- ---- states

pub promise_kept : (s : AcceptorState) (b : BallotValue) → IsAtMost s.promised b → IsOrdered s
    → IsOrdered (with_promise s b)
promise_kept s b most k =
    record { rising = k.rising; promised = λ v h. at_most_trans v.ballot s.promised b (k.promised v h) most }

pub vote_kept : (s : AcceptorState) (x : Vote) → IsAtMost s.promised x.ballot → s.snapshot_position < x.position
    → IsOrdered s → IsOrdered (with_vote s x)
vote_kept s x most above k = record {
  rising = rising_with s.snapshot_position x s.votes k.rising above;
  promised = λ v h. elim (from_with x s.votes v h) [
    | inl e ↦ inr (ap (λ (y : Vote). y.ballot) (sym e))
    | inr c ↦ at_most_trans v.ballot s.promised x.ballot (k.promised v c) most
  ];
}

-- a vote that is kept already changes nothing, since its ballot is the promised one
pub still_kept : (s : AcceptorState) (x : Vote) → IsOrdered s → IsAtMost s.promised x.ballot
    → Contains s.votes x → with_vote s x ≡ s
still_kept s x k most listed =
    same s (with_vote s x) (both s.promised x.ballot most (k.promised x listed))
    (with_kept s.snapshot_position x s.votes k.rising listed) refl
  where
    both : (b c : BallotValue) → IsAtMost b c → IsAtMost c b → c ≡ b
    both b c (inr e) k = sym e
    both b c (inl h) k = absurd (below_self b (below_at_most b c b h k))

    same : (s t : AcceptorState) → t.promised ≡ s.promised → t.votes ≡ s.votes
        → t.snapshot_position ≡ s.snapshot_position → t ≡ s
    same s t p v i = λ j. record { promised = p j; votes = v j; snapshot_position = i j }

pub rest_kept : (s : AcceptorState) (i : ℕ) → IsOrdered s → IsOrdered (without_votes_to s i)
rest_kept s i k = record {
  rising = above_rises s.snapshot_position i s.votes k.rising;
  promised = λ v h. k.promised v (filter_from (λ (w : Vote). nat_lt i w.position) s.votes v h);
}

-- ---- they are changes that an acceptor may make

same_vote : (x y : Vote) → y.position ≡ x.position → y.ballot ≡ x.ballot → y.command ≡ x.command → y ≡ x
same_vote x y p b c = λ i. record { position = p i; ballot = b i; command = c i }

is_new : (s : AcceptorState) (x : Vote) → IsOrdered s → IsAtMost s.promised x.ballot
    → ((v : Vote) → Contains s.votes v → Agrees v x) → IsNew x s.votes
is_new s x k most agree y listed at =
    elim (at_most_trans y.ballot s.promised x.ballot (k.promised y listed) most) [
      | inl below ↦ inl below
      | inr same ↦ inr (same_vote x y at same (agree y listed at same))
    ]

pub takes_vote : (s : AcceptorState) (x : Vote) → IsOrdered s → IsAtMost s.promised x.ballot
    → ((v : Vote) → Contains s.votes v → Agrees v x) → AddsVote s x (with_vote s x)
takes_vote s x k most agree = record {
  promised = refl;
  snapshot = refl;
  kept = stands_with x s.votes (is_new s x k most agree);
  others = λ y h ne. stays_with x s.votes y h ne;
  only = λ y h. elim (from_with x s.votes y h) [ inl e ↦ inl (sym e) | inr c ↦ inr c ];
}

pub takes_snapshot : (s : AcceptorState) (i : ℕ) → s.snapshot_position ≤ i → ForgetsVotes s i (without_votes_to s i)
takes_snapshot s i later = filtered_takes_snapshot s (without_votes_to s i) i later refl refl refl
