-- The notes of a node that hears that others have accepted tell how far it has executed.
use Rattle.std.proofs.Common.{◌≡◌, ◌∙◌, ◌==◌, inl, inr, ℕ, ◌+◌, ◌≤◌, ◌++◌, Bool, true, false, cond, List, [], ◌∷◌}
use Rattle.std.proofs.Common.{Option, Some, None, refl, ap, sym, subst, arith}
use Rattle.std.proofs.lemmas.Bool.{eq-eqb}
use Rattle.lk_types.specs.declared.vote.Vote.{Vote}
use Rattle.lk_messages.specs.declared.message.Content.TheVariants as content
use Rattle.lk_messages.specs.declared.message.NodeMessage.TheVariants as kinds
use Rattle.lk_store_format.specs.Values.{HeaderValue}
use Rattle.lk_state.specs.Meanings.{Meaning}
use Rattle.lk_state.specs.Runs.{run_answer}
use Rattle.lk_state.specs.declared.session.Session.{Session}
use Rattle.lk_learner.proofs.Learnerships.{ran_moves}
use Rattle.lk_learner.specs.Learners.{LearnerValue, Pair, advanced, alpha, executed}
use Rattle.lk_node_interface.specs.KeptReplies.{session_by}
use Rattle.lk_node_interface.specs.Outboxes.{OutboxValue, nothing, with_note}
use Rattle.lk_node_interface.specs.declared.note.Note.{Note}
use Rattle.lk_node_interface.specs.declared.note.Note.TheVariants as note
use Rattle.lk_node.specs.Deciding.{HandlesAccepted, IsOnlyHeard, with_vote}
use Rattle.lk_node.specs.Executing.{EndsWaitIfAny, Executes, Runs, goes_on, is_outside, stays, with_session_reply}
use Rattle.lk_node.specs.Executing.{waiting_number, without_term_if_outside}
use Rattle.lk_node.specs.Leading.{ProposesAll, having_proposed}
use Rattle.lk_node.specs.Learning.{Learns}
use Rattle.lk_node.specs.NodeValue.{NodeValue}
use Rattle.lk_node.specs.Yielding.{without_term}
use Rattle.lk_progress.specs.Hearing.{Takes}
use Rattle.lk_rebases.proofs.Rebases.{Handled, HasSame, handled, proposed_same}
use Rattle.lk_healing.specs.Fills.{last_ran}

pub last_ran_both : (n e : ℕ) (xs ys : List Note) → last_ran n e (xs ++ ys) ≡ last_ran n (last_ran n e xs) ys
last_ran_both n e [] ys = refl
last_ran_both n e (note.Asked r ∷ xs) ys = last_ran_both n e xs ys
last_ran_both n e (note.Counted k i set v ∷ xs) ys = last_ran_both n e xs ys
last_ran_both n e (note.Ran k i v ∷ xs) ys = last_ran_both n (cond (k == n) i e) xs ys
last_ran_both n e (note.Answered k client number answer ∷ xs) ys = last_ran_both n e xs ys
last_ran_both n e (note.Told k client number last ∷ xs) ys = last_ran_both n e xs ys

-- the node has this number, knows the members of some positions, and has executed what these notes tell
record HasRun (n e : ℕ) (node : NodeValue) (notes : List Note) : Type 0 where
  number : node.header.node ≡ n
  some : 1 ≤ alpha node.learner
  is : executed node.learner ≡ last_ran n e notes

-- the same header, learner and notes
same_run : (n e : ℕ) (old new : NodeValue) (before after : List Note) → new.header ≡ old.header
    → new.learner ≡ old.learner → after ≡ before → HasRun n e old before → HasRun n e new after
same_run n e old new before after header learner notes h = record {
  number = ap (λ (w : HeaderValue). w.node) header ∙ h.number;
  some = subst (λ (l : LearnerValue). 1 ≤ alpha l) (sym learner) h.some;
  is = ap (λ (l : LearnerValue). executed l) learner ∙ h.is ∙ ap (last_ran n e) (sym notes);
}

-- ---- one execution

outside_learner : (node : NodeValue) → (without_term_if_outside node).learner ≡ node.learner
outside_learner node = by_test (is_outside node)
  where
    by_test : (t : Bool) → (cond t (without_term node) node).learner ≡ node.learner
    by_test true = refl
    by_test false = refl

waited_learner : (o : Option Session) (old new : NodeValue) (before after : OutboxValue)
    → EndsWaitIfAny o old before new after → new.learner ≡ old.learner
waited_learner None old new before after k = ap (λ (node : NodeValue). node.learner) k.0
waited_learner (Some s) old new before after k = ap (λ (node : NodeValue). node.learner) k.becomes

-- it moves the node on by one position
executes_moves : (m : Meaning) (old new : NodeValue) (before after : OutboxValue) → Executes m old before new after
    → 1 ≤ alpha old.learner
    → (executed new.learner ≡ executed old.learner + 1) × (alpha new.learner ≡ alpha old.learner)
executes_moves m old new before after k some =
    let is : new.learner ≡ advanced m k.command old.learner = ap (λ (node : NodeValue). node.learner) k.becomes
    ∙ outside_learner k.mid
    ∙ waited_learner (session_by k.command (run_answer m k.command old.learner.whole)) _ k.mid _ after k.ends_wait in
    let moves = ran_moves m k.command old.learner.whole some in
    (ap (λ (l : LearnerValue). executed l) is ∙ moves.0, ap (λ (l : LearnerValue). alpha l) is ∙ moves.1)

outside_header : (node : NodeValue) → (without_term_if_outside node).header ≡ node.header
outside_header node = by_test (is_outside node)
  where
    by_test : (t : Bool) → (cond t (without_term node) node).header ≡ node.header
    by_test true = refl
    by_test false = refl

reply_notes : (w : HeaderValue) (s : Session) (o : Option ℕ) (out : OutboxValue)
    → (with_session_reply w s o out).notes ≡ out.notes
reply_notes w s None out = refl
reply_notes w s (Some number) out = refl

waited_same : (o : Option Session) (old new : NodeValue) (before after : OutboxValue)
    → EndsWaitIfAny o old before new after → (new.header ≡ old.header) × (after.notes ≡ before.notes)
waited_same None old new before after k =
    (ap (λ (node : NodeValue). node.header) k.0, ap (λ (o : OutboxValue). o.notes) k.1)
waited_same (Some s) old new before after k = (
  ap (λ (node : NodeValue). node.header) k.becomes,
  ap (λ (o : OutboxValue). o.notes) k.comes_to ∙ reply_notes old.header s (waiting_number s old) before,
)

module _ (m : Meaning) (n e : ℕ) where
  executed_once : (old new : NodeValue) (before after : OutboxValue) → Executes m old before new after
      → HasRun n e old before.notes → HasRun n e new after.notes
  executed_once old new before after k h =
      let waited = waited_same (session_by k.command (run_answer m k.command old.learner.whole)) _ k.mid _ after
      k.ends_wait in
      let moves = executes_moves m old new before after k h.some in
      let here : (old.header.node == n) ≡ true = eq-eqb old.header.node n h.number in
      record {
        number = ap (λ (node : NodeValue). node.header.node) k.becomes
            ∙ ap (λ (w : HeaderValue). w.node) (outside_header k.mid ∙ waited.0) ∙ h.number;
        some = omega (arith, moves.1, h.some);
        is = moves.0 ∙ sym (ap (last_ran n e) waited.1
            ∙ last_ran_both n e before.notes (note.Ran old.header.node (executed old.learner + 1) k.command ∷ [])
            ∙ rw here refl);
      }

  run_all : (old : NodeValue) (before : OutboxValue) (new : NodeValue) (after : OutboxValue)
      → Runs m old before new after → HasRun n e old before.notes → HasRun n e new after.notes
  run_all old before _ _ stays h = h
  run_all old before new after (goes_on {mid = mid} {between = between} so_far k) h =
      executed_once mid new between after k (run_all old before mid between so_far h)

  -- ---- an acceptance

  learned_run : (p : Pair) (old new : NodeValue) (before after : OutboxValue) → Learns p old before new after
      → HasRun n e old before.notes → HasRun n e new after.notes
  learned_run p old new before after (inl kept) h = record {
    number = ap (λ (node : NodeValue). node.header.node) kept.1 ∙ h.number;
    some = subst (λ (l : LearnerValue). 1 ≤ alpha l) (sym (ap (λ (node : NodeValue). node.learner) kept.1)) h.some;
    is = ap (λ (node : NodeValue). executed node.learner) kept.1 ∙ h.is
        ∙ ap (last_ran n e) (sym (ap (λ (o : OutboxValue). o.notes) kept.2));
  }
  learned_run p old new before after (inr left) h = same_run n e old new before.notes after.notes
      (ap (λ (node : NodeValue). node.header) left.1) (ap (λ (node : NodeValue). node.learner) left.1)
      (ap (λ (o : OutboxValue). o.notes) left.2) h

  accepted_run : (from : ℕ) (x : Vote) (old new : NodeValue) (out : OutboxValue) → HandlesAccepted m from x old new out
      → HasRun n e old [] → HasRun n e new out.notes
  accepted_run from x old new out (inr heard) h = heard_run heard.0
    where
      no_notes : out.notes ≡ []
      no_notes = ap (λ (o : OutboxValue). o.notes) heard.1

      heard_run : IsOnlyHeard from x old new → HasRun n e new out.notes
      heard_run (inl counted) = same_run n e old new [] out.notes (ap (λ (node : NodeValue). node.header) counted.2)
          (ap (λ (node : NodeValue). node.learner) counted.2) no_notes h
      heard_run (inr not_for) = same_run n e old new [] out.notes (ap (λ (node : NodeValue). node.header) not_for.1)
          (ap (λ (node : NodeValue). node.learner) not_for.1) no_notes h
  accepted_run from x old new out (inl decided) h =
      let d = decided.2 in
      let voted : NodeValue = with_vote from x old decided.0 in
      let before : OutboxValue =
      with_note (note.Counted voted.header.node x.position decided.0.set x.command) nothing in
      let after : HasRun n e new d.ran.notes = run_all d.learned d.written new d.ran d.runs.0
      (learned_run (x.position, x.command) voted d.learned before d.written d.learns
      (record { number = h.number; some = h.some; is = h.is })) in
      record {
        number = after.number;
        some = after.some;
        is = after.is ∙ ap (last_ran n e) (sym (ap (λ (o : OutboxValue). o.notes) d.comes_to));
      }

-- ---- a step

proposed_notes : (xs : List Vote) (old new : NodeValue) (before out : OutboxValue) → ProposesAll xs old new before out
    → out.notes ≡ before.notes
proposed_notes [] old new before out p = ap (λ (o : OutboxValue). o.notes) p.2
proposed_notes (x ∷ xs) old new before out p = proposed_notes xs (having_proposed old x p.0) new _ out p.1

pub acceptance_runs : (m : Meaning) (IsText : List ℕ → Type 0) (from : ℕ) (x : Vote) (old new : NodeValue)
    (out : OutboxValue) → Takes m IsText old (content.Node from (kinds.Accepted x)) new out → 1 ≤ alpha old.learner
    → executed new.learner ≡ last_ran old.header.node (executed old.learner) out.notes
acceptance_runs m IsText from x old new out takes some =
    let h : Handled m IsText old (content.Node from (kinds.Accepted x)) new out =
    handled m IsText old (content.Node from (kinds.Accepted x)) new out takes in
    let same : HasSame h.mid new = proposed_same h.proposes.0 h.mid new h.first out h.proposes.1 in
    let run = accepted_run m old.header.node (executed old.learner) from x old h.mid h.first h.handles
    (record { number = refl; some = some; is = refl }) in
    ap (λ (l : LearnerValue). executed l) same.learner ∙ run.is
    ∙ ap (last_ran old.header.node (executed old.learner))
    (sym (proposed_notes h.proposes.0 h.mid new h.first out h.proposes.1))
