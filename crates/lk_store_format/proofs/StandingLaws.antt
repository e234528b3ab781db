-- What one more entry makes of a standing.
use Rattle.std.proofs.Common.{◌≡◌, ℕ, ◌<◌, Bool, true, false, cond, ltb, eqb, List, [], ◌∷◌, ◌++◌, map, Option, Some}
use Rattle.std.proofs.Common.{None, refl, sym, ap, subst, ◌∙◌, arith, append_assoc}
use Rattle.std.specs.List.{AllByRecursion}
use Rattle.std.proofs.lemmas.Bool.Decides.{nat_tests}
use Rattle.std.proofs.lemmas.Bool.{ltb-true}
use Rattle.std.proofs.lemmas.List.{append-nil}
use Rattle.lk_types.specs.BallotValue.{BallotValue}
use Rattle.lk_types.specs.Ballots.{is_below, zero_ballot}
use Rattle.lk_types.specs.declared.command.Command.{Command}
use Rattle.lk_types.specs.declared.entry.Entry.{Entry}
use Rattle.lk_types.specs.declared.entry.Entry.TheVariants.{Promise, Vote, Decided}
use Rattle.lk_types.specs.declared.vote.Vote.{Vote as VoteValue}
use Rattle.lk_types.specs.Votes.{are_votes_above}
use Rattle.lk_store_format.specs.Entries.{are_pairs_above, IsBase, IsStored}
use Rattle.lk_store_format.specs.Bases.{has_base, is_misplaced, generation}
use Rattle.lk_store_format.specs.VoteLists.{votes_with}
use Rattle.lk_store_format.specs.Standings.{greater, greatest_of, ballot_of, ballots_in, ballots, votes_in, all_votes}
use Rattle.lk_store_format.specs.Standings.{pairs_in, all_pairs, best_vote, vote_at, decided_at, HasSnapshot, StandsFor}
use Rattle.lk_store_format.specs.Standings.{Rises, with_pair, with_plain, of_base}
use Rattle.lk_store_format.specs.Values.{StandingValue, BaseValue}
use Rattle.lk_store_format.specs.declared.stored.Stored.{Stored}
use Rattle.lk_store_format.specs.declared.stored.Stored.TheVariants.{Base, Plain}
use Rattle.lk_store_format.proofs.InOrder.{vote_then, vote_at-with, rising-with, best-push, best-rising, decided_then}
use Rattle.lk_store_format.proofs.InOrder.{decided-push, decided_at-with, pairs_rise-with}

-- ---- the lists of all ballots, votes and pairs

ballots-push : (es : List Stored) (e : Stored) → ballots (es ++ e ∷ []) ≡ ballots es ++ ballots_in e
ballots-push [] e = append-nil (ballots_in e)
ballots-push (x ∷ es) e =
    ap (λ (l : List BallotValue). ballots_in x ++ l) (ballots-push es e)
    ∙ sym (append_assoc (ballots_in x) (ballots es) (ballots_in e))

votes-push : (es : List Stored) (e : Stored) → all_votes (es ++ e ∷ []) ≡ all_votes es ++ votes_in e
votes-push [] e = append-nil (votes_in e)
votes-push (x ∷ es) e = ap (λ (l : List VoteValue). votes_in x ++ l) (votes-push es e)
    ∙ sym (append_assoc (votes_in x) (all_votes es) (votes_in e))

pairs-push : (es : List Stored) (e : Stored) → all_pairs (es ++ e ∷ []) ≡ all_pairs es ++ pairs_in e
pairs-push [] e = append-nil (pairs_in e)
pairs-push (x ∷ es) e = ap (λ (l : List (ℕ × Command)). pairs_in x ++ l) (pairs-push es e)
    ∙ sym (append_assoc (pairs_in x) (all_pairs es) (pairs_in e))

greatest-push : (b : BallotValue) (cs : List BallotValue) (c : BallotValue)
    → greatest_of b (cs ++ c ∷ []) ≡ greater (greatest_of b cs) c
greatest-push b [] c = refl
greatest-push b (d ∷ cs) c = greatest-push (greater b d) cs c

snapshot-push : (es fs : List Stored) (s t : StandingValue) → t.position ≡ s.position → t.snapshot ≡ s.snapshot
    → HasSnapshot es s → HasSnapshot (es ++ fs) t
snapshot-push [] fs s t p q h = absurd h
snapshot-push (Base b ∷ es) fs s t p q h = (p ∙ h.0, q ∙ h.1)
snapshot-push (Plain e ∷ es) fs s t p q h = absurd h

-- no vote is at a position that the tests leave out
apart : (i low j : ℕ) → low < i → ltb low j ≡ false → eqb j i ≡ false
apart i low j h e = grind (arith, nat_tests)

-- ---- its lists rise

votes_still_rise : (s : StandingValue) (v : VoteValue) → Rises s
    → are_votes_above s.position (cond (ltb s.position v.position) (votes_with v s.votes) s.votes) ≡ true
votes_still_rise s v rises = by_test (ltb s.position v.position) refl
  where
    by_test : (b : Bool) → ltb s.position v.position ≡ b
        → are_votes_above s.position (cond b (votes_with v s.votes) s.votes) ≡ true
    by_test true e = rising-with s.position v s.votes rises.0 (ltb-true s.position v.position e)
    by_test false e = rises.0

pairs_still_rise : (s : StandingValue) (p : ℕ × Command) → Rises s
    → are_pairs_above s.position (cond (ltb s.position p.0) (with_pair p s.pairs) s.pairs) ≡ true
pairs_still_rise s p rises = by_test (ltb s.position p.0) refl
  where
    by_test : (b : Bool) → ltb s.position p.0 ≡ b
        → are_pairs_above s.position (cond b (with_pair p s.pairs) s.pairs) ≡ true
    by_test true e = pairs_rise-with s.position p s.pairs rises.1 (ltb-true s.position p.0 e)
    by_test false e = rises.1

pub rises_with : (e : Entry) (s : StandingValue) → Rises s → Rises (with_plain e s)
rises_with (Promise b) s rises = rises
rises_with (Vote v) s rises = (votes_still_rise s v rises, rises.1)
rises_with (Decided n c) s rises = (rises.0, pairs_still_rise s (n, c) rises)

-- ---- one more entry after others

module _ (es : List Stored) (s : StandingValue) (h : StandsFor es s) where
  promise_stands : (b : BallotValue) → StandsFor (es ++ Plain (Promise b) ∷ []) (with_plain (Promise b) s)
  promise_stands b = record {
    snapshot = snapshot-push es (Plain (Promise b) ∷ []) s (with_plain (Promise b) s) refl refl h.snapshot;
    promised = ap (λ (g : BallotValue). greater g b) h.promised ∙ sym (greatest-push zero_ballot (ballots es) b)
        ∙ ap (greatest_of zero_ballot) (sym (ballots-push es (Plain (Promise b))));
    votes = λ i above. h.votes i above
        ∙ ap (best_vote i) (sym (votes-push es (Plain (Promise b)) ∙ append-nil (all_votes es)));
    votes_rise = h.votes_rise;
    pairs = λ i above. h.pairs i above
        ∙ ap (decided_at i) (sym (pairs-push es (Plain (Promise b)) ∙ append-nil (all_pairs es)));
    pairs_rise = h.pairs_rise;
  }

  vote_found : (v : VoteValue) (i : ℕ) → s.position < i
      → vote_at i (cond (ltb s.position v.position) (votes_with v s.votes) s.votes) ≡ vote_then i (vote_at i s.votes) v
  vote_found v i above = by_test (ltb s.position v.position) refl
    where
      by_test : (b : Bool) → ltb s.position v.position ≡ b
          → vote_at i (cond b (votes_with v s.votes) s.votes) ≡ vote_then i (vote_at i s.votes) v
      by_test true e = vote_at-with i s.position v s.votes h.votes_rise
      by_test false e = let other = apart i s.position v.position above e in rw other refl

  vote_stands : (v : VoteValue) → StandsFor (es ++ Plain (Vote v) ∷ []) (with_plain (Vote v) s)
  vote_stands v = record {
    snapshot = snapshot-push es (Plain (Vote v) ∷ []) s (with_plain (Vote v) s) refl refl h.snapshot;
    promised = ap (λ (g : BallotValue). greater g v.ballot) h.promised
        ∙ sym (greatest-push zero_ballot (ballots es) v.ballot)
        ∙ ap (greatest_of zero_ballot) (sym (ballots-push es (Plain (Vote v))));
    votes = λ i above. vote_found v i above ∙ ap (λ (o : Option VoteValue). vote_then i o v) (h.votes i above)
        ∙ sym (best-push i None (all_votes es) v) ∙ ap (best_vote i) (sym (votes-push es (Plain (Vote v))));
    votes_rise = votes_still_rise s v (h.votes_rise, h.pairs_rise);
    pairs = λ i above. h.pairs i above
        ∙ ap (decided_at i) (sym (pairs-push es (Plain (Vote v)) ∙ append-nil (all_pairs es)));
    pairs_rise = h.pairs_rise;
  }

  pair_found : (p : ℕ × Command) (i : ℕ) → s.position < i
      → decided_at i (cond (ltb s.position p.0) (with_pair p s.pairs) s.pairs) ≡ decided_then i (decided_at i s.pairs) p
  pair_found p i above = by_test (ltb s.position p.0) refl
    where
      unchanged : (o : Option Command) → eqb p.0 i ≡ false → o ≡ decided_then i o p
      unchanged (Some c) e = refl
      unchanged None e = rw e refl

      by_test : (b : Bool) → ltb s.position p.0 ≡ b
          → decided_at i (cond b (with_pair p s.pairs) s.pairs) ≡ decided_then i (decided_at i s.pairs) p
      by_test true e = decided_at-with i s.position p s.pairs h.pairs_rise
      by_test false e = unchanged (decided_at i s.pairs) (apart i s.position p.0 above e)

  decided_stands : (n : ℕ) (c : Command) → StandsFor (es ++ Plain (Decided n c) ∷ []) (with_plain (Decided n c) s)
  decided_stands n c = record {
    snapshot = snapshot-push es (Plain (Decided n c) ∷ []) s (with_plain (Decided n c) s) refl refl h.snapshot;
    promised = h.promised ∙ ap (greatest_of zero_ballot)
        (sym (ballots-push es (Plain (Decided n c)) ∙ append-nil (ballots es)));
    votes = λ i above. h.votes i above
        ∙ ap (best_vote i) (sym (votes-push es (Plain (Decided n c)) ∙ append-nil (all_votes es)));
    votes_rise = h.votes_rise;
    pairs = λ i above. pair_found (n, c) i above
        ∙ ap (λ (o : Option Command). decided_then i o (n, c)) (h.pairs i above)
        ∙ sym (decided-push i (all_pairs es) (n, c)) ∙ ap (decided_at i) (sym (pairs-push es (Plain (Decided n c))));
    pairs_rise = pairs_still_rise s (n, c) (h.votes_rise, h.pairs_rise);
  }

pub plain_stands : (es : List Stored) (s : StandingValue) (e : Entry) → StandsFor es s
    → StandsFor (es ++ Plain e ∷ []) (with_plain e s)
plain_stands es s (Promise b) h = promise_stands es s h b
plain_stands es s (Vote v) h = vote_stands es s h v
plain_stands es s (Decided n c) h = decided_stands es s h n c

-- ---- a Base alone

greater_zero : (b : BallotValue) → greater zero_ballot b ≡ b
greater_zero b = by_test (is_below zero_ballot b) refl
  where
    zeros : is_below zero_ballot b ≡ false → (b.round ≡ 0) × (b.node ≡ 0)
    zeros e = grind (arith, nat_tests)

    by_test : (t : Bool) → is_below zero_ballot b ≡ t → cond t b zero_ballot ≡ b
    by_test true e = refl
    by_test false e = let z = zeros e in λ i. record { round = sym z.0 i; node = sym z.1 i }

pub rising_stands : (b : BaseValue) → are_votes_above b.standing.position b.standing.votes ≡ true
    → are_pairs_above b.standing.position b.standing.pairs ≡ true → StandsFor (Base b ∷ []) (of_base b)
rising_stands b votes_rise pairs_rise = record {
  snapshot = (refl, refl);
  promised = ap (λ (g : BallotValue). greatest_of g (map ballot_of b.standing.votes))
      (sym (greater_zero b.standing.promised)) ∙ ap (greatest_of zero_ballot) (sym (append-nil (ballots_in (Base b))));
  votes = λ i above. best-rising i b.standing.position b.standing.votes votes_rise
      ∙ ap (best_vote i) (sym (append-nil b.standing.votes));
  votes_rise = votes_rise;
  pairs = λ i above. ap (decided_at i) (sym (append-nil b.standing.pairs));
  pairs_rise = pairs_rise;
}

pub base_stands : (b : BaseValue) → IsBase b → StandsFor (Base b ∷ []) (of_base b)
base_stands b fits = rising_stands b fits.2.6 fits.2.9

-- ---- all entries, one after the other

-- the standing so far is that of well placed entries with a Base in front
pub record StandsSoFar (es : List Stored) (s : StandingValue) : Type 0 where
  pub stands : AllByRecursion IsStored es → is_misplaced es ≡ false → 0 < generation es → StandsFor es s

all-front : (es : List Stored) (e : Stored) → AllByRecursion IsStored (es ++ e ∷ [])
    → AllByRecursion IsStored es × IsStored e
all-front [] e a = (tt, a.0)
all-front (x ∷ es) e a = let more = all-front es e a.1 in ((a.0, more.0), more.1)

has_base-front : (es : List Stored) (e : Stored) → has_base (es ++ e ∷ []) ≡ false
    → (has_base es ≡ false) × (has_base (e ∷ []) ≡ false)
has_base-front [] e h = (refl, h)
has_base-front (Base b ∷ es) e h = absurd cc
has_base-front (Plain x ∷ es) e h = has_base-front es e h

pub so_far_base : (es : List Stored) (b : BaseValue) (s : StandingValue) → s ≡ of_base b
    → StandsSoFar (es ++ Base b ∷ []) s
so_far_base [] b s is =
    record { stands = λ fit base_first some. subst (StandsFor (Base b ∷ [])) (sym is) (base_stands b fit.0.0) }
so_far_base (Base a ∷ es) b s is =
    record { stands = λ fit base_first some. absurd (let no_more = (has_base-front es (Base b) base_first).1 in cc) }
so_far_base (Plain e ∷ es) b s is = record { stands = λ fit base_first some. absurd cc }

pub so_far_plain : (es : List Stored) (e : Entry) (s t : StandingValue) → t ≡ with_plain e s → StandsSoFar es s
    → StandsSoFar (es ++ Plain e ∷ []) t
so_far_plain [] e s t is h = record { stands = λ fit base_first some. absurd cc }
so_far_plain (Base b ∷ es) e s t is h = record {
  stands = λ fit base_first some.
      let front = all-front (Base b ∷ es) (Plain e) fit in
      subst (StandsFor (Base b ∷ es ++ Plain e ∷ [])) (sym is)
      (plain_stands (Base b ∷ es) s e (h.stands front.0 (has_base-front es (Plain e) base_first).0 some));
}
so_far_plain (Plain x ∷ es) e s t is h = record { stands = λ fit base_first some. absurd cc }

-- that of a Base alone rises
pub rises_alone : (b : BaseValue) (s : StandingValue) → s ≡ of_base b → IsStored (Base b) → Rises s
rises_alone b s is fits = subst Rises (sym is) (fits.0.2.6, fits.0.2.9)
