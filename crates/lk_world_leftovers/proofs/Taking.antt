-- A node takes decided commands: it keeps its acceptor, and gets no farther than they reach, or what it knew already.
use Rattle.std.proofs.Common.{◌≡◌, ◌∙◌, inl, inr, ℕ, ◌+◌, ◌<◌, ◌≤◌, Bool, true, false, cond, List, Some, None, Option}
use Rattle.std.proofs.Common.{length, refl, ap, arith}
use Rattle.std.proofs.lemmas.Option.{slice_get_within}
use Rattle.lk_messages.specs.Values.{DecidedValue}
use Rattle.lk_messages.specs.declared.message.Content.TheVariants as content
use Rattle.lk_messages.specs.declared.message.NodeMessage.TheVariants as kinds
use Rattle.lk_members.specs.Effects.{Command}
use Rattle.lk_state.specs.Meanings.{Meaning}
use Rattle.lk_state.specs.Runs.{run_answer}
use Rattle.lk_state.specs.declared.session.Session.{Session}
use Rattle.lk_acceptor.specs.AcceptorValue.{AcceptorValue}
use Rattle.lk_learner.specs.Learners.{Pair}
use Rattle.lk_node_interface.specs.KeptReplies.{session_by}
use Rattle.lk_node_interface.specs.Outboxes.{OutboxValue, nothing}
use Rattle.lk_node.specs.DecidedPairs.{LearnsPairs, none_yet, one_more}
use Rattle.lk_node.specs.Executing.{EndsWaitIfAny, Runs, goes_on, is_outside, stays, without_term_if_outside}
use Rattle.lk_node.specs.Learning.{Learns}
use Rattle.lk_node.specs.NodeValue.{NodeValue}
use Rattle.lk_node.specs.Yielding.{without_term}
use Rattle.lk_progress.specs.Hearing.{Takes}
use Rattle.lk_rebases.proofs.Rebases.{Handled, HasSame, handled, proposed_same}
use Rattle.lk_leftovers.proofs.Offering.{Reaches, learned_reaches, runs_reach, same_reaches}

-- ---- the acceptor

learned_acceptor : (p : Pair) (old new : NodeValue) (before after : OutboxValue) → Learns p old before new after
    → new.acceptor ≡ old.acceptor
learned_acceptor p old new before after (inl kept) = ap (λ (n : NodeValue). n.acceptor) kept.1
learned_acceptor p old new before after (inr left) = ap (λ (n : NodeValue). n.acceptor) left.1

waited_acceptor : (o : Option Session) (old new : NodeValue) (before after : OutboxValue)
    → EndsWaitIfAny o old before new after → new.acceptor ≡ old.acceptor
waited_acceptor None old new before after ends = ap (λ (n : NodeValue). n.acceptor) ends.0
waited_acceptor (Some s) old new before after ends = ap (λ (n : NodeValue). n.acceptor) ends.becomes

inside_acceptor : (node : NodeValue) → (without_term_if_outside node).acceptor ≡ node.acceptor
inside_acceptor node = by_test (is_outside node)
  where
    by_test : (t : Bool) → (cond t (without_term node) node).acceptor ≡ node.acceptor
    by_test true = refl
    by_test false = refl

pub runs_acceptor : (m : Meaning) (old : NodeValue) (before : OutboxValue) (new : NodeValue) (after : OutboxValue)
    → Runs m old before new after → new.acceptor ≡ old.acceptor
runs_acceptor m old before _ _ stays = refl
runs_acceptor m old before new after (goes_on {mid = mid} {between = between} so_far x) =
    ap (λ (n : NodeValue). n.acceptor) x.becomes ∙ inside_acceptor x.mid
    ∙ waited_acceptor (session_by x.command (run_answer m x.command mid.learner.whole)) _ x.mid _ after x.ends_wait
    ∙ runs_acceptor m old before mid between so_far

-- ---- a Decided

-- the node has this acceptor, knows the members so far ahead, and gets no farther than the last position
pub record Gets (a : AcceptorValue) (width last : ℕ) (node : NodeValue) : Type 0 where
  pub acceptor : node.acceptor ≡ a
  pub reaches : Reaches width last node

module _ (a : AcceptorValue) (width last : ℕ) (some : 1 ≤ width) where
  pairs_get : (m : Meaning) (first : ℕ) (commands : List Command) (old : NodeValue) (before : OutboxValue) (k : ℕ)
      (new : NodeValue) (after : OutboxValue) → first + length commands ≤ last + 1
      → LearnsPairs m first commands old before k new after → Gets a width last old → Gets a width last new
  pairs_get m first commands old before _ _ _ low none_yet f = f
  pairs_get m first commands old before _ new after low
      (one_more {k = j} {mid = mid} {between = between} v so_far at l) f =
      let earlier : Gets a width last mid = pairs_get m first commands old before j mid between low so_far f in
      let within : j < length commands = slice_get_within commands j v at in
      record {
        acceptor = runs_acceptor m l.learned l.written new after l.runs.0
            ∙ learned_acceptor (first + j, v) mid l.learned between l.written l.learns ∙ earlier.acceptor;
        reaches = runs_reach width last some m l.learned l.written new after l.runs.0
            (learned_reaches width last some (first + j, v) mid l.learned between l.written l.learns
            (omega (arith, within, low)) earlier.reaches);
      }

-- so it is after a step with commands of positions up to the last one
pub decided_gets : (m : Meaning) (IsText : List ℕ → Type 0) (a : AcceptorValue) (width last : ℕ) (old new : NodeValue)
    (from : ℕ) (d : DecidedValue) (out : OutboxValue) → 1 ≤ width → d.first + length d.commands ≤ last + 1
    → Takes m IsText old (content.Node from (kinds.Decided d)) new out → Gets a width last old → Gets a width last new
decided_gets m IsText a width last old new from d out some low takes f =
    by_handled (handled m IsText old (content.Node from (kinds.Decided d)) new out takes)
  where
    by_handled : Handled m IsText old (content.Node from (kinds.Decided d)) new out → Gets a width last new
    by_handled h =
        let mid : Gets a width last h.mid = pairs_get a width last some m d.first d.commands old nothing
        (length d.commands) h.mid h.first low h.handles f in
        let same : HasSame h.mid new = proposed_same h.proposes.0 h.mid new h.first out h.proposes.1 in
        record {
          acceptor = same.acceptor ∙ mid.acceptor;
          reaches = same_reaches width last some h.mid new same.learner mid.reaches;
        }
