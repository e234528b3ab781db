-- How far a standing reaches, with more entries.
use Rattle.std.proofs.Common.{◌≡◌, ℕ, zero, suc, ◌<◌, ◌≤◌, ◌⊎◌, inl, inr, Bool, true, false, cond, ltb, eqb}
use Rattle.std.proofs.Common.{List, [], ◌∷◌, ◌++◌, length, take, Contains, refl, sym, ap, ◌∙◌, subst, arith}
use Rattle.std.proofs.lemmas.Bool.{eqb-true, lt-ltb}
use Rattle.lk_types.specs.declared.command.Command.{Command}
use Rattle.lk_types.specs.declared.entry.Entry.{Entry}
use Rattle.lk_types.specs.declared.entry.Entry.TheVariants.{Promise, Vote, Decided}
use Rattle.lk_types.specs.declared.vote.Vote.{Vote as VoteValue}
use Rattle.lk_types.specs.Ballots.{is_below}
use Rattle.lk_store_format.specs.VoteLists.{votes_with}
use Rattle.lk_store_format.specs.Standings.{with_pair, with_plain, with_all}
use Rattle.lk_store_format.specs.Values.{StandingValue}
use Rattle.lk_members.proofs.Memberships.{length_of_window}
use Rattle.lk_members.specs.Windows.{roster_after}
use Rattle.lk_state.specs.Meanings.{Meaning}
use Rattle.lk_state.specs.States.{WholeValue, SumsUp, whole_after}
use Rattle.lk_node.proofs.Lists.{cons_cases, contains_more}
use Rattle.lk_node.specs.Histories.{Genesis}
use Rattle.lk_node.specs.NodeValue.{NodeValue}
use Rattle.lk_node.specs.NewBases.{standing_of, with_snapshot}
use Rattle.lk_node.specs.Reaching.{IsDecidedAt, DecidesTo, LiesNear, AllLieNear, EntryLiesNear, EntriesLieNear}
use Rattle.lk_node.specs.Reaching.{RestoresNode}
use Rattle.lk_node.specs.Reaching.{IsRestorable, StillRestoresNode, HoldsNear}
use Rattle.lk_acceptor.proofs.Acceptors.{takes_snapshot}
use Rattle.lk_learner.specs.Learners.{executed, alpha}

-- ---- pairs in order

pair_stays : (p q : ℕ × Command) (ps : List (ℕ × Command)) → Contains ps q → Contains (with_pair p ps) q
pair_stays p q [] c = absurd (omega (arith, c.1))
pair_stays p q (x ∷ xs) c = by_below (λ k. pair_stays p q xs k) (ltb x.0 p.0) (cons_cases x xs q c)
  where
    by_below : (Contains xs q → Contains (with_pair p xs) q) → (t : Bool) → (x ≡ q) ⊎ Contains xs q
        → Contains (cond t (x ∷ with_pair p xs) (cond (eqb x.0 p.0) (x ∷ xs) (p ∷ x ∷ xs))) q
    by_below again true (inl same) = (0, omega arith, same)
    by_below again true (inr rest) = contains_more x (with_pair p xs) q (again rest)
    by_below again false old = by_place (eqb x.0 p.0) old
      where
        by_place : (t : Bool) → (x ≡ q) ⊎ Contains xs q → Contains (cond t (x ∷ xs) (p ∷ x ∷ xs)) q
        by_place true (inl same) = (0, omega arith, same)
        by_place true (inr rest) = contains_more x xs q rest
        by_place false (inl same) = contains_more p (x ∷ xs) q (0, omega arith, same)
        by_place false (inr rest) = contains_more p (x ∷ xs) q (contains_more x xs q rest)

pair_put : (p : ℕ × Command) (ps : List (ℕ × Command)) → IsDecidedAt p.0 (with_pair p ps)
pair_put p [] = (p.1, (0, omega arith, refl))
pair_put p (x ∷ xs) = by_below (pair_put p xs) (ltb x.0 p.0)
  where
    by_below : IsDecidedAt p.0 (with_pair p xs) → (t : Bool)
        → IsDecidedAt p.0 (cond t (x ∷ with_pair p xs) (cond (eqb x.0 p.0) (x ∷ xs) (p ∷ x ∷ xs)))
    by_below again true = (again.0, contains_more x (with_pair p xs) (p.0, again.0) again.1)
    by_below again false = by_place (eqb x.0 p.0) refl
      where
        by_place : (t : Bool) → eqb x.0 p.0 ≡ t → IsDecidedAt p.0 (cond t (x ∷ xs) (p ∷ x ∷ xs))
        by_place true e = (x.1, (0, omega arith, ap (λ (i : ℕ). (i, x.1)) (eqb-true x.0 p.0 e)))
        by_place false e = (p.1, (0, omega arith, refl))

pair_from : (p q : ℕ × Command) (ps : List (ℕ × Command)) → Contains (with_pair p ps) q → (p ≡ q) ⊎ Contains ps q
pair_from p q [] c = cons_cases p [] q c
pair_from p q (x ∷ xs) c = by_below (λ k. pair_from p q xs k) (ltb x.0 p.0) c
  where
    by_below : (Contains (with_pair p xs) q → (p ≡ q) ⊎ Contains xs q) → (t : Bool)
        → Contains (cond t (x ∷ with_pair p xs) (cond (eqb x.0 p.0) (x ∷ xs) (p ∷ x ∷ xs))) q
        → (p ≡ q) ⊎ Contains (x ∷ xs) q
    by_below again true c = elim (cons_cases x (with_pair p xs) q c) [
      | inl same ↦ inr (0, omega arith, same)
      | inr rest ↦ elim (again rest) [ inl same ↦ inl same | inr old ↦ inr (contains_more x xs q old) ]
    ]
    by_below again false c = by_place (eqb x.0 p.0) c
      where
        by_place : (t : Bool) → Contains (cond t (x ∷ xs) (p ∷ x ∷ xs)) q → (p ≡ q) ⊎ Contains (x ∷ xs) q
        by_place true c = inr c
        by_place false c = cons_cases p (x ∷ xs) q c

-- ---- one more entry

position_more : (s : StandingValue) (e : Entry) → (with_plain e s).position ≡ s.position
position_more s (Promise b) = refl
position_more s (Vote v) = refl
position_more s (Decided i c) = refl

decided_more : (s : StandingValue) (e : Entry) (i : ℕ) → IsDecidedAt i s.pairs → IsDecidedAt i (with_plain e s).pairs
decided_more s (Promise b) i d = d
decided_more s (Vote v) i d = d
decided_more s (Decided j c) i d = by_test (ltb s.position j)
  where
    by_test : (t : Bool) → IsDecidedAt i (cond t (with_pair (j, c) s.pairs) s.pairs)
    by_test true = (d.0, pair_stays (j, c) (i, d.0) s.pairs d.1)
    by_test false = d

-- a pair above the snapshot is told
pub decided_here : (s : StandingValue) (i : ℕ) (c : Command) → s.position < i
    → IsDecidedAt i (with_plain (Decided i c) s).pairs
decided_here s i c low =
    subst (λ (t : Bool). IsDecidedAt i (cond t (with_pair (i, c) s.pairs) s.pairs)) (sym (lt-ltb s.position i low))
    (pair_put (i, c) s.pairs)

reaches_more : (s : StandingValue) (x : Entry) (e : ℕ) → DecidesTo s e → DecidesTo (with_plain x s) e
reaches_more s x e r i low most = decided_more s x i (r i (omega (arith, low, position_more s x)) most)

lies_more : (ahead : ℕ) (s : StandingValue) (x : Entry) (i : ℕ) → LiesNear ahead s i → LiesNear ahead (with_plain x s) i
lies_more ahead s x i n = (n.0, reaches_more s x n.0 n.1, n.2)

pub tells_more : (ahead : ℕ) (s : StandingValue) (x : Entry) (node : NodeValue) → RestoresNode ahead s node
    → RestoresNode ahead (with_plain x s) node
tells_more ahead s x node t = record {
  some = t.some;
  votes_ahead = t.votes_ahead;
  window = t.window;
  above = omega (arith, t.above, position_more s x);
  reached = reaches_more s x node.learner.whole.roster.executed t.reached;
  kept = λ p c. decided_more s x p.0 (t.kept p c);
}

-- ---- the votes and pairs with one more entry

vote_from : (v w : VoteValue) (vs : List VoteValue) → Contains (votes_with v vs) w → (v ≡ w) ⊎ Contains vs w
vote_from v w [] c = cons_cases v [] w c
vote_from v w (x ∷ xs) c = by_below (λ k. vote_from v w xs k) (ltb x.position v.position) c
  where
    by_below : (Contains (votes_with v xs) w → (v ≡ w) ⊎ Contains xs w) → (t : Bool)
        → Contains (cond t (x ∷ votes_with v xs)
        (cond (eqb x.position v.position) (cond (is_below x.ballot v.ballot) v x ∷ xs) (v ∷ x ∷ xs))) w
        → (v ≡ w) ⊎ Contains (x ∷ xs) w
    by_below again true c = elim (cons_cases x (votes_with v xs) w c) [
      | inl same ↦ inr (0, omega arith, same)
      | inr rest ↦ elim (again rest) [ inl same ↦ inl same | inr old ↦ inr (contains_more x xs w old) ]
    ]
    by_below again false c = by_place (eqb x.position v.position) c
      where
        by_place : (t : Bool) → Contains (cond t (cond (is_below x.ballot v.ballot) v x ∷ xs) (v ∷ x ∷ xs)) w
            → (v ≡ w) ⊎ Contains (x ∷ xs) w
        by_place true c = by_ballot (is_below x.ballot v.ballot) c
          where
            by_ballot : (t : Bool) → Contains (cond t v x ∷ xs) w → (v ≡ w) ⊎ Contains (x ∷ xs) w
            by_ballot true c =
                elim (cons_cases v xs w c) [ inl same ↦ inl same | inr old ↦ inr (contains_more x xs w old) ]
            by_ballot false c = inr c
        by_place false c = cons_cases v (x ∷ xs) w c

-- with an entry that lies near all still do
pub all_near_more : (ahead : ℕ) (s : StandingValue) (e : Entry) → AllLieNear ahead s → EntryLiesNear ahead s e
    → AllLieNear ahead (with_plain e s)
all_near_more ahead s (Promise b) all near =
    record {
      votes = λ v c. lies_more ahead s (Promise b) v.position (all.votes v c);
      pairs = λ p c. lies_more ahead s (Promise b) p.0 (all.pairs p c);
    }
all_near_more ahead s (Vote v) all near =
    record {
      votes = λ w c. by_test (ltb s.position v.position) w c;
      pairs = λ p c. lies_more ahead s (Vote v) p.0 (all.pairs p c);
    }
  where
    by_test : (t : Bool) (w : VoteValue) → Contains (cond t (votes_with v s.votes) s.votes) w
        → LiesNear ahead (with_plain (Vote v) s) w.position
    by_test true w c = elim (vote_from v w s.votes c) [
      | inl same ↦ subst (λ (k : VoteValue). LiesNear ahead (with_plain (Vote v) s) k.position) same
          (lies_more ahead s (Vote v) v.position near)
      | inr old ↦ lies_more ahead s (Vote v) w.position (all.votes w old)
    ]
    by_test false w c = lies_more ahead s (Vote v) w.position (all.votes w c)
all_near_more ahead s (Decided i d) all near =
    record {
      votes = λ v c. lies_more ahead s (Decided i d) v.position (all.votes v c);
      pairs = λ p c. by_test (ltb s.position i) p c;
    }
  where
    by_test : (t : Bool) (p : ℕ × Command) → Contains (cond t (with_pair (i, d) s.pairs) s.pairs) p
        → LiesNear ahead (with_plain (Decided i d) s) p.0
    by_test true p c = elim (pair_from (i, d) p s.pairs c) [
      | inl same ↦ subst (λ (q : ℕ × Command). LiesNear ahead (with_plain (Decided i d) s) q.0) same
          (lies_more ahead s (Decided i d) i near)
      | inr old ↦ lies_more ahead s (Decided i d) p.0 (all.pairs p old)
    ]
    by_test false p c = lies_more ahead s (Decided i d) p.0 (all.pairs p c)

-- ---- more entries

pub with_all_behind : (es more : List Entry) (s : StandingValue)
    → with_all (es ++ more) s ≡ with_all more (with_all es s)
with_all_behind [] more s = refl
with_all_behind (e ∷ es) more s = with_all_behind es more (with_plain e s)

pub near_behind : (ahead : ℕ) (s : StandingValue) (es more : List Entry) → EntriesLieNear ahead s es
    → EntriesLieNear ahead (with_all es s) more → EntriesLieNear ahead s (es ++ more)
near_behind ahead s [] more n k = k
near_behind ahead s (e ∷ es) more n k = (n.0, near_behind ahead (with_plain e s) es more n.1 k)

-- what is told with these entries, with more is still
pub told_behind : (ahead : ℕ) (s : StandingValue) (loose es : List Entry) (old new : NodeValue)
    → IsRestorable ahead s loose old → StillRestoresNode old new es → IsRestorable ahead s (loose ++ es) new
told_behind ahead s loose es old new told on =
    let k = on ahead (with_all loose s) told.tells in
    record {
      near = near_behind ahead s loose es told.near k.0;
      tells = subst (λ (t : StandingValue). RestoresNode ahead t new) (sym (with_all_behind loose es s)) k.1;
    }

-- what is told is told where all of it is synced
pub told_synced : (ahead : ℕ) (s : StandingValue) (loose : List Entry) (node : NodeValue)
    → IsRestorable ahead s loose node
    → IsRestorable ahead (with_all loose s) [] node
told_synced ahead s loose node told = record { near = tt; tells = told.tells }

-- where all lies near and the entries do, all does with each beginning of them
pub near_begins : (ahead : ℕ) (s : StandingValue) (es : List Entry) (k : ℕ) → AllLieNear ahead s
    → EntriesLieNear ahead s es → AllLieNear ahead (with_all (take k es) s)
near_begins ahead s es zero all near = all
near_begins ahead s [] (suc k) all near = all
near_begins ahead s (e ∷ es) (suc k) all near =
    near_begins ahead (with_plain e s) es k (all_near_more ahead s e all near.0) near.1

-- ---- a Base

-- nothing above the snapshot has to be reached
none_above : (s : StandingValue) → DecidesTo s s.position
none_above s i low most = absurd (omega (arith, low, most))

pub base_near : (node : NodeValue) → HoldsNear node → AllLieNear (alpha node.learner) (standing_of node)
base_near node near = record {
  votes = λ v c. (
    executed node.learner,
    none_above (standing_of node),
    near.0.votes v ((takes_snapshot node.acceptor.state (executed node.learner) near.0.snapshot).only v c),
  );
  pairs = λ p c. (executed node.learner, none_above (standing_of node), near.1.near p c);
}

pub base_tells : (node : NodeValue) → HoldsNear node → 1 ≤ alpha node.learner
    → RestoresNode (alpha node.learner) (standing_of node) (with_snapshot node)
base_tells node near some = record {
  some = some;
  votes_ahead = near.0.alpha_is;
  window = refl;
  above = omega arith;
  reached = none_above (standing_of node);
  kept = λ p c. (p.1, c);
}

-- ---- the window of a state

state_roster : (m : Meaning) (genesis : Genesis) (done : List Command)
    → (whole_after m genesis done).roster ≡ roster_after genesis done
unfolding whole_after
state_roster m genesis done = refl

-- a state knows the members alpha positions ahead
pub window_is : (m : Meaning) (genesis : Genesis) (done : List Command) (w : WholeValue) → SumsUp m genesis done w
    → length w.roster.sets ≡ genesis.alpha
window_is m genesis done w sums =
    length_of_window genesis done w.roster (ap (λ (x : WholeValue). x.roster) sums ∙ state_roster m genesis done)
