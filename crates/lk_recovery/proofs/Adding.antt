-- What a standing covers, and what fits, with one more entry.
use Rattle.std.proofs.Common.{◌≡◌, ℕ, ◌⊎◌, Bool, true, false, cond, ltb, eqb, List, [], ◌∷◌, ◌++◌, Contains, refl, ap}
use Rattle.std.proofs.Common.{sym, ◌∙◌, subst, inl, inr, arith}
use Rattle.std.proofs.lemmas.Bool.{eqb-true}
use Rattle.lk_types.specs.declared.command.Command.{Command}
use Rattle.lk_types.specs.declared.entry.Entry.{Entry}
use Rattle.lk_types.specs.declared.entry.Entry.TheVariants.{Promise, Vote, Decided}
use Rattle.lk_types.specs.declared.vote.Vote.{Vote as VoteValue}
use Rattle.lk_messages.specs.declared.message.NodeMessage.{NodeMessage}
use Rattle.lk_messages.specs.declared.message.NodeMessage.TheVariants as kinds
use Rattle.lk_store_format.specs.VoteLists.{votes_with}
use Rattle.lk_store_format.specs.Values.{StandingValue}
use Rattle.lk_store_format.specs.Standings.{greater, with_pair, with_plain}
use Rattle.lk_store_format.specs.declared.stored.Stored.{Stored}
use Rattle.lk_store_format.specs.declared.stored.Stored.TheVariants.{Plain}
use Rattle.lk_log.proofs.StoreLaws.{plain_stands, header_more}
use Rattle.lk_state.specs.Meanings.{Meaning}
use Rattle.lk_types.specs.BallotValue.{BallotValue}
use Rattle.lk_types.specs.Ballots.{IsBelow, IsAtMost, is_below}
use Rattle.lk_types.proofs.Values.{below_by_test, at_most_by_test}
use Rattle.lk_agreement_laws.specs.Datagrams.{Accept, WasSent}
use Rattle.lk_agreement_laws.specs.Chosen.{ChosenAt}
use Rattle.lk_agreement_laws.specs.Acceptors.{Covers, CoversVote}
use Rattle.lk_agreement_laws.proofs.Histories.{at_most_trans, below_at_most}
use Rattle.lk_node.proofs.Nodes.{cons_cases, contains_more, all_near_more}
use Rattle.lk_node.specs.Histories.{History}
use Rattle.lk_node.specs.Leavings.{acceptor_of}
use Rattle.lk_node.specs.Reaching.{EntryLiesNear}
use Rattle.lk_node.specs.Entries.{EntriesFit, Rests}

-- ---- ballots

greater_left : (a b : BallotValue) → IsAtMost a (greater a b)
greater_left a b = by_test (is_below a b) refl
  where
    by_test : (t : Bool) → is_below a b ≡ t → IsAtMost a (cond t b a)
    by_test true e = inl (below_by_test a b e)
    by_test false e = inr refl

pub greater_right : (a b : BallotValue) → IsAtMost b (greater a b)
greater_right a b = by_test (is_below a b) refl
  where
    by_test : (t : Bool) → is_below a b ≡ t → IsAtMost b (cond t b a)
    by_test true e = inr refl
    by_test false e = at_most_by_test a b e

-- ---- votes in order

vote_from : (v w : VoteValue) (vs : List VoteValue) → Contains (votes_with v vs) w → (v ≡ w) ⊎ Contains vs w
vote_from v w [] c = cons_cases v [] w c
vote_from v w (x ∷ xs) c = by_below (λ k. vote_from v w xs k) (ltb x.position v.position) c
  where
    by_below : (Contains (votes_with v xs) w → (v ≡ w) ⊎ Contains xs w) → (t : Bool)
        → Contains (cond t (x ∷ votes_with v xs)
        (cond (eqb x.position v.position) (cond (is_below x.ballot v.ballot) v x ∷ xs) (v ∷ x ∷ xs))) w
        → (v ≡ w) ⊎ Contains (x ∷ xs) w
    by_below again true c = elim (cons_cases x (votes_with v xs) w c) [
      | inl same ↦ inr (0, omega arith, same)
      | inr rest ↦ elim (again rest) [ inl same ↦ inl same | inr old ↦ inr (contains_more x xs w old) ]
    ]
    by_below again false c = by_place (eqb x.position v.position) c
      where
        by_place : (t : Bool) → Contains (cond t (cond (is_below x.ballot v.ballot) v x ∷ xs) (v ∷ x ∷ xs)) w
            → (v ≡ w) ⊎ Contains (x ∷ xs) w
        by_place true c = by_ballot (is_below x.ballot v.ballot) c
          where
            by_ballot : (t : Bool) → Contains (cond t v x ∷ xs) w → (v ≡ w) ⊎ Contains (x ∷ xs) w
            by_ballot true c =
                elim (cons_cases v xs w c) [ inl same ↦ inl same | inr old ↦ inr (contains_more x xs w old) ]
            by_ballot false c = inr c
        by_place false c = cons_cases v (x ∷ xs) w c

-- a vote that stood stands, or one of its position in a greater ballot
abbrev Outlasts : List VoteValue → VoteValue → Type 0
Outlasts vs y = (z : VoteValue) × Contains vs z × (z.position ≡ y.position) × ((z ≡ y) ⊎ IsBelow y.ballot z.ballot)

still : (vs : List VoteValue) (y : VoteValue) → Contains vs y → Outlasts vs y
still vs y c = (y, c, refl, inl refl)

vote_outlasts : (v y : VoteValue) (vs : List VoteValue) → Contains vs y → Outlasts (votes_with v vs) y
vote_outlasts v y [] c = absurd (omega (arith, c.1))
vote_outlasts v y (x ∷ xs) c = by_below (λ k. vote_outlasts v y xs k) (ltb x.position v.position) (cons_cases x xs y c)
  where
    by_below : (Contains xs y → Outlasts (votes_with v xs) y) → (t : Bool) → (x ≡ y) ⊎ Contains xs y
        → Outlasts (cond t (x ∷ votes_with v xs)
        (cond (eqb x.position v.position) (cond (is_below x.ballot v.ballot) v x ∷ xs) (v ∷ x ∷ xs))) y
    by_below again true (inl same) = still (x ∷ votes_with v xs) y (0, omega arith, same)
    by_below again true (inr rest) = let z = again rest in (z.0, contains_more x (votes_with v xs) z.0 z.1, z.2, z.3)
    by_below again false old = by_place (eqb x.position v.position) refl old
      where
        by_place : (t : Bool) → eqb x.position v.position ≡ t → (x ≡ y) ⊎ Contains xs y
            → Outlasts (cond t (cond (is_below x.ballot v.ballot) v x ∷ xs) (v ∷ x ∷ xs)) y
        by_place false e old = still (v ∷ x ∷ xs) y
            (contains_more v (x ∷ xs) y
            (elim old [ inl same ↦ (0, omega arith, same) | inr rest ↦ contains_more x xs y rest ]))
        by_place true e (inr rest) =
            still (cond (is_below x.ballot v.ballot) v x ∷ xs) y
            (contains_more (cond (is_below x.ballot v.ballot) v x) xs y rest)
        by_place true e (inl same) = by_ballot (is_below x.ballot v.ballot) refl
          where
            by_ballot : (t : Bool) → is_below x.ballot v.ballot ≡ t → Outlasts (cond t v x ∷ xs) y
            by_ballot true b = (
              v,
              (0, omega arith, refl),
              sym (eqb-true x.position v.position e) ∙ ap (λ (k : VoteValue). k.position) same,
              inr (subst (λ (k : VoteValue). IsBelow k.ballot v.ballot) same (below_by_test x.ballot v.ballot b)),
            )
            by_ballot false b = still (x ∷ xs) y (0, omega arith, same)

pair_from : (p q : ℕ × Command) (ps : List (ℕ × Command)) → Contains (with_pair p ps) q → (p ≡ q) ⊎ Contains ps q
pair_from p q [] c = cons_cases p [] q c
pair_from p q (x ∷ xs) c = by_below (λ k. pair_from p q xs k) (ltb x.0 p.0) c
  where
    by_below : (Contains (with_pair p xs) q → (p ≡ q) ⊎ Contains xs q) → (t : Bool)
        → Contains (cond t (x ∷ with_pair p xs) (cond (eqb x.0 p.0) (x ∷ xs) (p ∷ x ∷ xs))) q
        → (p ≡ q) ⊎ Contains (x ∷ xs) q
    by_below again true c = elim (cons_cases x (with_pair p xs) q c) [
      | inl same ↦ inr (0, omega arith, same)
      | inr rest ↦ elim (again rest) [ inl same ↦ inl same | inr old ↦ inr (contains_more x xs q old) ]
    ]
    by_below again false c = by_place (eqb x.0 p.0) c
      where
        by_place : (t : Bool) → Contains (cond t (x ∷ xs) (p ∷ x ∷ xs)) q → (p ≡ q) ⊎ Contains (x ∷ xs) q
        by_place true c = inr c
        by_place false c = cons_cases p (x ∷ xs) q c

-- ---- the standing

promised_more : (s : StandingValue) (e : Entry) → IsAtMost s.promised (with_plain e s).promised
promised_more s (Promise b) = greater_left s.promised b
promised_more s (Vote v) = greater_left s.promised v.ballot
promised_more s (Decided i c) = inr refl

position_more : (s : StandingValue) (e : Entry) → (with_plain e s).position ≡ s.position
position_more s (Promise b) = refl
position_more s (Vote v) = refl
position_more s (Decided i c) = refl

snapshot_more : (s : StandingValue) (e : Entry) → (with_plain e s).snapshot ≡ s.snapshot
snapshot_more s (Promise b) = refl
snapshot_more s (Vote v) = refl
snapshot_more s (Decided i c) = refl

votes_outlast : (s : StandingValue) (e : Entry) (y : VoteValue) → Contains s.votes y → Outlasts (with_plain e s).votes y
votes_outlast s (Promise b) y c = still s.votes y c
votes_outlast s (Vote v) y c = by_test (ltb s.position v.position)
  where
    by_test : (t : Bool) → Outlasts (cond t (votes_with v s.votes) s.votes) y
    by_test true = vote_outlasts v y s.votes c
    by_test false = still s.votes y c
votes_outlast s (Decided i d) y c = still s.votes y c

-- what is covered stays covered
covers_vote : (s : StandingValue) (e : Entry) (x : VoteValue) → CoversVote s.votes x
    → CoversVote (with_plain e s).votes x
covers_vote s e x y =
    let z = votes_outlast s e y.0 y.1 in (
      z.0,
      z.1,
      z.2 ∙ y.2,
      elim z.3 [
        | inl same ↦ subst (λ (k : VoteValue). IsBelow x.ballot k.ballot
            ⊎ ((k.ballot ≡ x.ballot) × (k.command ≡ x.command))) (sym same) y.3
        | inr above ↦ inl (elim y.3 [
          | inl lt ↦ below_at_most x.ballot y.0.ballot z.0.ballot lt (inl above)
          | inr same ↦
              subst (λ b. IsBelow b z.0.ballot) same.0 above
        ])
      ],
    )

pub covers_more : (s : StandingValue) (e : Entry) (x : NodeMessage) → Covers (acceptor_of s) x
    → Covers (acceptor_of (with_plain e s)) x
covers_more s e (kinds.Prepare b first) c = at_most_trans b s.promised _ c (promised_more s e)
covers_more s e (kinds.Promise p) c = at_most_trans p.ballot s.promised _ c (promised_more s e)
covers_more s e (kinds.Accept v) c = at_most_trans v.ballot s.promised _ c (promised_more s e)
covers_more s e (kinds.Accepted v) c = (
  at_most_trans v.ballot s.promised _ c.0 (promised_more s e),
  elim c.1 [
    | inl under ↦ inl (omega (arith, under, position_more s e))
    | inr y ↦ inr (covers_vote s e v y)
  ],
)
covers_more s e (kinds.Nack k) c = c
covers_more s e (kinds.Decided d) c = c
covers_more s e (kinds.Want k) c = c
covers_more s e (kinds.Part p) c = c
covers_more s e (kinds.Answer k) c = c
covers_more s e (kinds.Elsewhere k) c = c
covers_more s e (kinds.Passed p) c = c
covers_more s e (kinds.Lead b k) c = c

module _ (m : Meaning) (h : History) (n : ℕ) where
  votes_stem : (s : StandingValue) (e : Entry) → Rests h e
      → ((w : VoteValue) → Contains s.votes w → WasSent h.genesis h.sent (Accept w) × IsAtMost w.ballot s.promised)
      → (w : VoteValue) → Contains (with_plain e s).votes w
      → WasSent h.genesis h.sent (Accept w) × IsAtMost w.ballot (with_plain e s).promised
  votes_stem s (Promise b) rests old w c = let o = old w c in
      (o.0, at_most_trans w.ballot s.promised _ o.1 (greater_left s.promised b))
  votes_stem s (Vote v) rests old w c = by_test (ltb s.position v.position) c
    where
      kept : Contains s.votes w → WasSent h.genesis h.sent (Accept w) × IsAtMost w.ballot (greater s.promised v.ballot)
      kept d = let o = old w d in (o.0, at_most_trans w.ballot s.promised _ o.1 (greater_left s.promised v.ballot))

      by_test : (t : Bool) → Contains (cond t (votes_with v s.votes) s.votes) w
          → WasSent h.genesis h.sent (Accept w) × IsAtMost w.ballot (greater s.promised v.ballot)
      by_test true d = elim (vote_from v w s.votes d) [
        | inl same ↦ (
          subst (λ k. WasSent h.genesis h.sent (Accept k)) same rests,
          subst (λ (k : VoteValue). IsAtMost k.ballot (greater s.promised v.ballot)) same
              (greater_right s.promised v.ballot),
        )
        | inr o ↦ kept o
      ]
      by_test false d = kept d
  votes_stem s (Decided i d) rests old w c = old w c

  pairs_stem : (s : StandingValue) (e : Entry) → Rests h e
      → ((i : ℕ) (v : Command) → Contains s.pairs (i, v) → ChosenAt h.genesis h.sent i v)
      → (i : ℕ) (v : Command) → Contains (with_plain e s).pairs (i, v) → ChosenAt h.genesis h.sent i v
  pairs_stem s (Promise b) rests old i v c = old i v c
  pairs_stem s (Vote x) rests old i v c = old i v c
  pairs_stem s (Decided j d) rests old i v c = by_test (ltb s.position j) c
    where
      by_test : (t : Bool) → Contains (cond t (with_pair (j, d) s.pairs) s.pairs) (i, v) → ChosenAt h.genesis h.sent i v
      by_test true k = elim (pair_from (j, d) (i, v) s.pairs k) [
        | inl same ↦ subst (λ (p : ℕ × Command). ChosenAt h.genesis h.sent p.0 p.1) same rests
        | inr o ↦ old i v o
      ]
      by_test false k = old i v k

  pub adds : (es : List Stored) (e : Entry) → Rests h e → (f : EntriesFit m h n es)
      → EntryLiesNear h.genesis.alpha f.standing e → EntriesFit m h n (es ++ Plain e ∷ [])
  adds es e rests f near = record {
    standing = with_plain e f.standing;
    header = header_more es (Plain e ∷ []) _ f.header;
    stands = plain_stands es f.standing e f.stands;
    under = f.under;
    position = f.position ∙ sym (position_more f.standing e);
    snapshot = snapshot_more f.standing e ∙ f.snapshot;
    covers = λ x sent. covers_more f.standing e x (f.covers x sent);
    stems = record {
      votes = votes_stem f.standing e rests f.stems.votes;
      done = f.stems.done;
      snapshot = omega (arith, f.stems.snapshot, position_more f.standing e);
      pairs = pairs_stem f.standing e rests f.stems.pairs;
    };
    near = all_near_more h.genesis.alpha f.standing e f.near near;
  }
