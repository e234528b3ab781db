-- With another past a node counts acceptances, decides and executes the same.
use Rattle.std.proofs.Common.{◌≡◌, ◌∙◌, inl, inr, ℕ, ◌+◌, ◌++◌}
use Rattle.std.proofs.Common.{Bool, true, false, cond}
use Rattle.std.proofs.Common.{List, [], ◌∷◌, Option, Some, None, refl, ap, arith}
use Rattle.lk_types.specs.declared.member.Member.{Member}
use Rattle.lk_types.specs.declared.vote.Vote.{Vote}
use Rattle.lk_state.specs.Meanings.{Meaning}
use Rattle.lk_state.specs.Runs.{run_answer}
use Rattle.lk_state.specs.declared.session.Session.{Session}
use Rattle.lk_learner.proofs.Learnerships.{ran_moves}
use Rattle.lk_learner.specs.Learners.{Pair, advanced, alpha, executed}
use Rattle.lk_node_interface.specs.KeptReplies.{session_by}
use Rattle.lk_node_interface.specs.Outboxes.{OutboxValue, nothing}
use Rattle.lk_node.specs.Deciding.{Decides, HandlesAccepted, IsForProposal, with_vote}
use Rattle.lk_node.specs.Executing.{EndsWaitIfAny, Executes, Runs, stays, goes_on, is_outside, without_term_if_outside}
use Rattle.lk_node.specs.Learning.{Learns, with_learner}
use Rattle.lk_node.specs.NodeValue.{NodeValue}
use Rattle.lk_node.specs.Yielding.{without_term}
use Rattle.lk_rebases.specs.Pasts.{Fits, Past, with_past}
use Rattle.lk_rebases.proofs.Votes.{same_above}
use Rattle.lk_rebases.proofs.Replies.{Mirrors, fits_alike, fits_same}

-- ---- executions

past_outside : (p : Past) (node : NodeValue)
    → with_past p (without_term_if_outside node) ≡ without_term_if_outside (with_past p node)
past_outside p node = by_test (is_outside node)
  where
    by_test : (t : Bool) → with_past p (cond t (without_term node) node)
        ≡ cond t (without_term (with_past p node)) (with_past p node)
    by_test true = refl
    by_test false = refl

kept_outside : (node : NodeValue) → ((without_term_if_outside node).acceptor ≡ node.acceptor)
    × ((without_term_if_outside node).learner ≡ node.learner)
kept_outside node = by_test (is_outside node)
  where
    by_test : (t : Bool) → ((cond t (without_term node) node).acceptor ≡ node.acceptor)
        × ((cond t (without_term node) node).learner ≡ node.learner)
    by_test true = (refl, refl)
    by_test false = (refl, refl)

past_waited : (p : Past) (o : Option Session) (old new : NodeValue) (before after : OutboxValue)
    → EndsWaitIfAny o old before new after → EndsWaitIfAny o (with_past p old) before (with_past p new) after
past_waited p None old new before after k = (ap (with_past p) k.0, k.1)
past_waited p (Some s) old new before after k =
    record { becomes = ap (with_past p) k.becomes; comes_to = k.comes_to; fits = k.fits }

kept_waited : (o : Option Session) (old new : NodeValue) (before after : OutboxValue)
    → EndsWaitIfAny o old before new after → (new.acceptor ≡ old.acceptor) × (new.learner ≡ old.learner)
kept_waited None old new before after k =
    (ap (λ (n : NodeValue). n.acceptor) k.0, ap (λ (n : NodeValue). n.learner) k.0)
kept_waited (Some s) old new before after k =
    (ap (λ (n : NodeValue). n.acceptor) k.becomes, ap (λ (n : NodeValue). n.learner) k.becomes)

module _ (m : Meaning) where
  one_executed : (p : Past) (old new : NodeValue) (before after : OutboxValue) → Fits p old
      → Executes m old before new after → Mirrors (λ node. Executes m (with_past p old) before node after) new
  one_executed p old new before after f k = record {
    past = later;
    fits = fits_alike later moved new
        (ap (λ (n : NodeValue). n.acceptor) k.becomes ∙ (kept_outside k.mid).0 ∙ waited.0)
        (ap (λ (n : NodeValue). n.learner) k.becomes ∙ (kept_outside k.mid).1 ∙ waited.1)
        (record {
          some = omega (arith, moves.1, f.some);
          below = omega (arith, moves.0, f.below);
          own = omega (arith, moves.0, f.own);
          votes = same_above (executed old.learner) p.votes old.acceptor.state.votes f.votes (executed moved.learner)
              (omega (arith, moves.0));
        });
    does = record {
      command = k.command;
      next = k.next;
      mid = with_past later k.mid;
      ends_wait = past_waited later (session_by k.command (run_answer m k.command old.learner.whole)) moved k.mid _
          after k.ends_wait;
      becomes = ap (with_past later) k.becomes ∙ past_outside later k.mid;
    };
  }
    where
      later : Past
      later = record p { retained = p.retained ++ k.command ∷ [] }

      moved : NodeValue
      moved = with_learner old (advanced m k.command old.learner)

      moves : (executed moved.learner ≡ executed old.learner + 1) × (alpha moved.learner ≡ alpha old.learner)
      moves = ran_moves m k.command old.learner.whole f.some

      waited : (k.mid.acceptor ≡ moved.acceptor) × (k.mid.learner ≡ moved.learner)
      waited = kept_waited (session_by k.command (run_answer m k.command old.learner.whole)) moved k.mid _ after
          k.ends_wait

  all_executed : (p : Past) (old : NodeValue) (before : OutboxValue) (new : NodeValue) (after : OutboxValue)
      → Fits p old → Runs m old before new after → Mirrors (λ node. Runs m (with_past p old) before node after) new
  all_executed p old before _ _ f stays = record { past = p; fits = f; does = stays }
  all_executed p old before new after f (goes_on {mid = mid} {between = between} so_far k) =
      let first = all_executed p old before mid between f so_far in
      let last = one_executed first.past mid new between after first.fits k in
      record { past = last.past; fits = last.fits; does = goes_on first.does last.does }

  -- ---- a decision

  learned : (p : Past) (pair : Pair) (old new : NodeValue) (before after : OutboxValue) → Fits p old
      → Learns pair old before new after → Fits p new × Learns pair (with_past p old) before (with_past p new) after
  learned p pair old new before after f (inl kept) = (
    fits_same p _ new kept.1 (record { some = f.some; below = f.below; own = f.own; votes = f.votes }),
    inl (
      record { above = kept.0.above; near = kept.0.near; new = kept.0.new },
      ap (with_past p) kept.1,
      kept.2,
    ),
  )
  learned p pair old new before after f (inr left) = (
    fits_same p old new left.1 f,
    inr (
      λ w. left.0 (record { above = w.above; near = w.near; new = w.new }),
      ap (with_past p) left.1,
      left.2,
    ),
  )

  decided : (p : Past) (set : List Member) (pair : Pair) (old new : NodeValue) (before after : OutboxValue)
      → Fits p old → Decides m set pair old before new after
      → Mirrors (λ node. Decides m set pair (with_past p old) before node after) new
  decided p set pair old new before after f d =
      let here = learned p pair old d.learned _ d.written f d.learns in
      let ran = all_executed p d.learned d.written new d.ran here.0 d.runs.0 in
      record {
        past = ran.past;
        fits = ran.fits;
        does = record {
          learned = with_past p d.learned;
          written = d.written;
          learns = here.1;
          ran = d.ran;
          runs = (ran.does, d.runs.1);
          envelopes = d.envelopes;
          told = record {
            nodes = d.told.nodes;
            others = d.told.others;
            fits = d.told.fits;
            comes_to = d.told.comes_to;
          };
          comes_to = d.comes_to;
        };
      }

  abbrev for_other : (p : Past) (x : Vote) (old : NodeValue) → IsForProposal old x → IsForProposal (with_past p old) x
  for_other p x old k =
      record { term = k.term; current = k.current; set = k.set; proposal = k.proposal; vote = k.vote }

  for_own : (p : Past) (x : Vote) (old : NodeValue) → IsForProposal (with_past p old) x → IsForProposal old x
  for_own p x old k =
      record { term = k.term; current = k.current; set = k.set; proposal = k.proposal; vote = k.vote }

  pub heard : (p : Past) (from : ℕ) (x : Vote) (old new : NodeValue) (out : OutboxValue) → Fits p old
      → HandlesAccepted m from x old new out
      → Mirrors (λ node. HandlesAccepted m from x (with_past p old) node out) new
  heard p from x old new out f (inl counted) =
      let after : NodeValue = with_vote from x old counted.0 in
      let d = decided p counted.0.set (x.position, x.command) after new nothing out
      (record { some = f.some; below = f.below; own = f.own; votes = f.votes }) counted.2 in
      record { past = d.past; fits = d.fits; does = inl (for_other p x old counted.0, counted.1, d.does) }
  heard p from x old new out f (inr (inl only, silent)) = record {
    past = p;
    fits = fits_same p (with_vote from x old only.0) new only.2
        (record { some = f.some; below = f.below; own = f.own; votes = f.votes });
    does = inr (inl (for_other p x old only.0, only.1, ap (with_past p) only.2), silent);
  }
  heard p from x old new out f (inr (inr none, silent)) = record {
    past = p;
    fits = fits_same p old new none.1 f;
    does = inr (inr (λ k. none.0 (for_own p x old k), ap (with_past p) none.1), silent);
  }
