-- When a standing may be revived, and the node that comes of it.
use Rattle.std.proofs.Common.{◌≡◌, ℕ, ◌+◌, ◌*◌, ◌≤◌, true, false, List, [], ◌∷◌, nat_le, length, None, inl, inr}
use Rattle.std.proofs.Common.{Contains, refl, sym, ap, ◌∙◌, subst, arith}
use Rattle.std.specs.List.{list_all}
use Rattle.std.proofs.lemmas.Bool.{and_parts, and_from, leb-true, le-leb, false≢true}
use Rattle.lk_types.specs.declared.vote.Vote.{Vote}
use Rattle.lk_acceptor.specs.AcceptorValue.{AcceptorValue}
use Rattle.lk_acceptor.specs.States.{IsOrdered}
use Rattle.lk_learner.specs.Learners.{Pair, LearnerValue}
use Rattle.lk_leader.specs.Terms.{new_leader}
use Rattle.lk_store_format.specs.Values.{HeaderValue, StandingValue}
use Rattle.lk_log.specs.Stores.{StandsForSome}
use Rattle.lk_state.specs.Meanings.{Meaning}
use Rattle.lk_state.specs.Packed.{Packs}
use Rattle.lk_state.specs.States.{WholeValue}
use Rattle.lk_node_interface.specs.declared.note.Note.{Note}
use Rattle.lk_node.specs.Leavings.{acceptor_of}
use Rattle.lk_node.specs.NodeValue.{NodeValue}
use Rattle.lk_recovery.specs.Revivals.{run_from, notes_of, relearned, reached, Unpacks, MayRevive, Restores}
use Rattle.lk_agreement_laws.specs.Acceptors.{AcceptorState}
use Rattle.lk_learner.specs.Learners.{executed}
use Rattle.lk_node.specs.Nearness as nearness
use Rattle.lk_node.proofs.Nodes.{cons_cases, contains_more}
use Rattle.lk_recovery.proofs.Ordered.{standing_ordered}

-- no pair lies too far above what is reached
abbrev pub AreNear : ℕ → ℕ → List Pair → Type 0
AreNear e a ps = (p : Pair) → Contains ps p → p.0 ≤ reached e ps + 2 * a

pub near_as : (e f a b : ℕ) (ps qs : List Pair) → e ≡ f → a ≡ b → ps ≡ qs → AreNear e a ps → AreNear f b qs
near_as e f a b ps qs at is same near =
    subst (λ (x : List Pair). AreNear f b x) same
    (subst (λ (i : ℕ). AreNear i b ps) at (subst (λ (k : ℕ). AreNear e k ps) is near))

-- the votes lie within as a test
pub within_tested : (f : ℕ) (vs : List Vote) → ((v : Vote) → Contains vs v → v.position ≤ f)
    → list_all (λ (v : Vote). nat_le v.position f) vs ≡ true
within_tested f [] all = refl
within_tested f (v ∷ vs) all =
    and_from (nat_le v.position f) (list_all (λ (v : Vote). nat_le v.position f) vs)
    (le-leb v.position f (all v (0, omega arith, refl))) (within_tested f vs (λ w h. all w (contains_more v vs w h)))

pub tested_within : (f : ℕ) (vs : List Vote) → list_all (λ (v : Vote). nat_le v.position f) vs ≡ true → (v : Vote)
    → Contains vs v → v.position ≤ f
tested_within f [] t v h = absurd (omega (arith, h.1))
tested_within f (w ∷ ws) t v h =
    let b = and_parts (nat_le w.position f) (list_all (λ (v : Vote). nat_le v.position f) ws) t in
    elim (cons_cases w ws v h) [
      | inl same ↦ subst (λ (x : Vote). x.position ≤ f) same (leb-true w.position f b.0)
      | inr later ↦
          tested_within f ws b.1 v later
    ]

-- what is revived is near
pub revived_near : (a : AcceptorValue) (l : LearnerValue) (alpha : ℕ) (s : AcceptorState) (f : ℕ)
    → a ≡ record { alpha = alpha; state = s } → length l.whole.roster.sets ≡ alpha → s.snapshot_position ≤ executed l
    → list_all (λ (v : Vote). nat_le v.position f) s.votes ≡ true → f ≡ executed l + 2 * alpha → nearness.AreNear a l
revived_near a l alpha s f is sets within all far =
    subst (λ (x : AcceptorValue). nearness.AreNear x l) (sym is) (record {
      alpha_is = sym sets;
      snapshot = within;
      votes = λ v c. let k = tested_within f s.votes all v c in omega (arith, k, far, sets);
    })

-- what an acceptor is made of is in order
pub some_ordered : (s : StandingValue) → StandsForSome s → IsOrdered (acceptor_of s)
some_ordered s some = standing_ordered some.0 s some.1

module _ (IsText : List ℕ → Type 0) (whose : HeaderValue) (s : StandingValue) (w : WholeValue) where
  -- a pair lies too far
  pub pairs_far : (pairs : List Pair) → pairs ≡ s.pairs → ((v : WholeValue) → Packs IsText v s.snapshot → w ≡ v)
      → (AreNear w.roster.executed (length w.roster.sets) pairs → ⊥) → (v : WholeValue) → MayRevive IsText whose s v → ⊥
  pairs_far pairs are one far v may =
      let same : w ≡ v = one v may.unpacks.packs in
      let at : w.roster.executed ≡ s.position = ap (λ (x : WholeValue). x.roster.executed) same
      ∙ may.unpacks.executed in
      let is : length w.roster.sets ≡ whose.alpha = ap (λ (x : WholeValue). length x.roster.sets) same
      ∙ may.unpacks.sets in
      far (near_as s.position w.roster.executed whose.alpha (length w.roster.sets) s.pairs pairs (sym at)
      (sym is) (sym are) may.pairs)

  -- a vote lies too far
  pub votes_far : (votes : List Vote) (f : ℕ) → votes ≡ s.votes → f ≡ reached s.position s.pairs + 2 * whose.alpha
      → list_all (λ (v : Vote). nat_le v.position f) votes ≡ false → (v : WholeValue) → MayRevive IsText whose s v → ⊥
  votes_far votes f are is fails v may =
      let all : list_all (λ (x : Vote). nat_le x.position f) votes ≡ true =
      within_tested f votes (λ x h. let k = may.votes x (subst (λ (vs : List Vote). Contains vs x) are h) in
      omega (arith, k, is)) in
      false≢true (sym fails ∙ all)

  -- none does
  pub may_revive : (pairs : List Pair) (votes : List Vote) (f : ℕ) → Unpacks IsText whose.alpha s.position s.snapshot w
      → pairs ≡ s.pairs → AreNear w.roster.executed (length w.roster.sets) pairs
      → votes ≡ s.votes → f ≡ reached s.position s.pairs + 2 * whose.alpha
      → list_all (λ (v : Vote). nat_le v.position f) votes ≡ true → MayRevive IsText whose s w
  may_revive pairs votes f u are near vs is holds = record {
    unpacks = u;
    votes = λ v h. let k = tested_within f votes holds v (subst (λ (l : List Vote). Contains l v) (sym vs) h) in
        omega (arith, k, is);
    pairs = near_as w.roster.executed s.position
        (length w.roster.sets) whose.alpha pairs s.pairs u.executed u.sets are near;
  }

  -- so the node is made of it
  pub restores : (m : Meaning) (pairs : List Pair) (header : HeaderValue) (a : AcceptorValue) (l : LearnerValue)
      (node : NodeValue) (notes : List Note) (n : ℕ)
      → MayRevive IsText whose s w → ((v : WholeValue) → Packs IsText v s.snapshot → w ≡ v) → pairs ≡ s.pairs
      → header ≡ whose → a ≡ record { alpha = whose.alpha; state = acceptor_of s } → l ≡ relearned m w pairs
      → node ≡ record {
        header = header;
        acceptor = a;
        learner = l;
        leader = new_leader;
        ticks = 0;
        rounds = 0;
        known = None;
        gathered_before = 0;
        halted = false;
      }
      → n ≡ whose.node → notes ≡ notes_of n w.roster.executed (run_from w.roster.executed pairs)
      → Restores m IsText whose s node notes
  restores m pairs header a l node notes n may one are same acceptor learner is at noted = record {
    whole = w;
    may = may;
    only = one;
    node_is = is ∙ (λ i. record {
      header = same i;
      acceptor = acceptor i;
      learner = (learner ∙ ap (relearned m w) are) i;
      leader = new_leader;
      ticks = 0;
      rounds = 0;
      known = None;
      gathered_before = 0;
      halted = false;
    });
    notes_are = noted ∙ (λ i. notes_of (at i) (may.unpacks.executed i) (run_from (may.unpacks.executed i) (are i)));
  }
