-- A node that takes decided commands or parts of a snapshot has promised the same, and has seen the same rounds.
use Rattle.std.proofs.Common.{◌≡◌, ◌∙◌, inl, inr, ℕ, ◌+◌, ◌<◌, Bool, true, false, cond, List, [], ◌∷◌, Some, None}
use Rattle.std.proofs.Common.{Option}
use Rattle.std.proofs.Common.{length, refl, ap, sym, subst}
use Rattle.lk_messages.specs.Values.{DecidedValue, PartValue}
use Rattle.lk_messages.specs.declared.message.Content.TheVariants as content
use Rattle.lk_messages.specs.declared.message.NodeMessage.TheVariants as kinds
use Rattle.lk_state.specs.Meanings.{Meaning}
use Rattle.lk_state.specs.Runs.{run_answer}
use Rattle.lk_state.specs.declared.session.Session.{Session}
use Rattle.lk_learner.specs.Learners.{Command, Pair}
use Rattle.lk_node_interface.specs.KeptReplies.{session_by}
use Rattle.lk_node_interface.specs.Envelopes.{EnvelopeValue}
use Rattle.lk_node_interface.specs.Outboxes.{OutboxValue, nothing}
use Rattle.lk_node.specs.Beginning.{greatest_round}
use Rattle.lk_node.specs.DecidedPairs.{LearnsPairs, none_yet, one_more}
use Rattle.lk_node.specs.Executing.{EndsWaitIfAny, Runs, goes_on, is_outside, stays, without_term_if_outside}
use Rattle.lk_node.specs.Installing.{EndsFirstWaits, HandlesPart, InstallsGathered, none_ended, one_ended}
use Rattle.lk_node.specs.Learning.{Learns}
use Rattle.lk_node.specs.NodeValue.{NodeValue}
use Rattle.lk_node.specs.Yielding.{without_term}
use Rattle.lk_progress.specs.Gathering.{parts_from}
use Rattle.lk_progress.specs.Hearing.{Takes, TakesEach}
use Rattle.lk_rebases.proofs.Rebases.{Handled, HasSame, handled, proposed_same}

-- the acceptor is the same, and so are the rounds seen
pub record KeepsRounds (old new : NodeValue) : Type 0 where
  pub acceptor : new.acceptor ≡ old.acceptor
  pub rounds : new.rounds ≡ old.rounds

pub keeps_as : (old new : NodeValue) → new ≡ old → KeepsRounds old new
keeps_as old new is = record {
  acceptor = ap (λ (n : NodeValue). n.acceptor) is;
  rounds = ap (λ (n : NodeValue). n.rounds) is;
}

pub keeps_then : (a b c : NodeValue) → KeepsRounds a b → KeepsRounds b c → KeepsRounds a c
keeps_then a b c p q = record { acceptor = q.acceptor ∙ p.acceptor; rounds = q.rounds ∙ p.rounds }

pub keeps_round : (old new : NodeValue) → KeepsRounds old new → greatest_round old < 281474976710656
    → greatest_round new < 281474976710656
keeps_round old new k low = subst (λ (n : ℕ). n < 281474976710656)
    (λ i. greatest_round (record old { acceptor = sym k.acceptor i; rounds = sym k.rounds i })) low

-- ---- executions

learned_keeps : (p : Pair) (old new : NodeValue) (before after : OutboxValue) → Learns p old before new after
    → KeepsRounds old new
learned_keeps p old new before after (inl kept) = record {
  acceptor = ap (λ (n : NodeValue). n.acceptor) kept.1;
  rounds = ap (λ (n : NodeValue). n.rounds) kept.1;
}
learned_keeps p old new before after (inr left) = keeps_as old new left.1

waited_keeps : (o : Option Session) (old new : NodeValue) (before after : OutboxValue)
    → EndsWaitIfAny o old before new after → KeepsRounds old new
waited_keeps None old new before after ends = keeps_as old new ends.0
waited_keeps (Some s) old new before after ends = record {
  acceptor = ap (λ (n : NodeValue). n.acceptor) ends.becomes;
  rounds = ap (λ (n : NodeValue). n.rounds) ends.becomes;
}

inside_keeps : (node : NodeValue) → KeepsRounds node (without_term_if_outside node)
inside_keeps node = by_test (is_outside node)
  where
    by_test : (t : Bool) → KeepsRounds node (cond t (without_term node) node)
    by_test true = record { acceptor = refl; rounds = refl }
    by_test false = record { acceptor = refl; rounds = refl }

runs_keep : (m : Meaning) (old : NodeValue) (before : OutboxValue) (new : NodeValue) (after : OutboxValue)
    → Runs m old before new after → KeepsRounds old new
runs_keep m old before _ _ stays = record { acceptor = refl; rounds = refl }
runs_keep m old before new after (goes_on {mid = mid} {between = between} so_far x) =
    let one = runs_keep m old before mid between so_far in
    let two = waited_keeps (session_by x.command (run_answer m x.command mid.learner.whole)) _ x.mid _ after
    x.ends_wait in
    let three = inside_keeps x.mid in record {
      acceptor = ap (λ (n : NodeValue). n.acceptor) x.becomes ∙ three.acceptor ∙ two.acceptor ∙ one.acceptor;
      rounds = ap (λ (n : NodeValue). n.rounds) x.becomes ∙ three.rounds ∙ two.rounds ∙ one.rounds;
    }

pairs_keep : (m : Meaning) (first : ℕ) (commands : List Command) (old : NodeValue) (before : OutboxValue) (k : ℕ)
    (new : NodeValue) (after : OutboxValue) → LearnsPairs m first commands old before k new after
    → KeepsRounds old new
pairs_keep m first commands old before _ _ _ none_yet = record { acceptor = refl; rounds = refl }
pairs_keep m first commands old before _ new after (one_more {k = j} {mid = mid} {between = between} v so_far at l) =
    keeps_then old mid new (pairs_keep m first commands old before j mid between so_far)
    (keeps_then mid l.learned new (learned_keeps (first + j, v) mid l.learned between l.written l.learns)
    (runs_keep m l.learned l.written new after l.runs.0))

-- ---- messages

pub decided_keeps : (m : Meaning) (IsText : List ℕ → Type 0) (old new : NodeValue) (from : ℕ) (d : DecidedValue)
    (out : OutboxValue) → Takes m IsText old (content.Node from (kinds.Decided d)) new out → KeepsRounds old new
decided_keeps m IsText old new from d out takes =
    by_handled (handled m IsText old (content.Node from (kinds.Decided d)) new out takes)
  where
    by_handled : Handled m IsText old (content.Node from (kinds.Decided d)) new out → KeepsRounds old new
    by_handled h =
        let same : HasSame h.mid new = proposed_same h.proposes.0 h.mid new h.first out h.proposes.1 in
        let mid = pairs_keep m d.first d.commands old nothing (length d.commands) h.mid h.first h.handles in
        record { acceptor = same.acceptor ∙ mid.acceptor; rounds = same.rounds ∙ mid.rounds }

waits_keep : (ss : List Session) (old : NodeValue) (before : OutboxValue) (k : ℕ) (new : NodeValue)
    (after : OutboxValue) → EndsFirstWaits ss old before k new after → KeepsRounds old new
waits_keep ss old before _ _ _ none_ended = record { acceptor = refl; rounds = refl }
waits_keep ss old before _ new after (one_ended {mid = mid} s so_far at ends) =
    let earlier : KeepsRounds old mid = waits_keep ss old before _ mid _ so_far in record {
      acceptor = ap (λ (n : NodeValue). n.acceptor) ends.becomes ∙ earlier.acceptor;
      rounds = ap (λ (n : NodeValue). n.rounds) ends.becomes ∙ earlier.rounds;
    }

installed_keeps : (m : Meaning) (adopted new : NodeValue) (out : OutboxValue) → InstallsGathered m adopted new out
    → KeepsRounds adopted new
installed_keeps m adopted new out k =
    keeps_then adopted k.told new
    (waits_keep adopted.learner.whole.sessions adopted _ _ k.told k.said k.ends_wait)
    (keeps_then k.told (without_term_if_outside k.told) new (inside_keeps k.told)
    (runs_keep m (without_term_if_outside k.told) k.said new out k.runs.0))

part_handled : (m : Meaning) (IsText : List ℕ → Type 0) (p : PartValue) (old new : NodeValue) (out : OutboxValue)
    → HandlesPart m IsText old p new out → KeepsRounds old new
part_handled m IsText p old new out (inl h) = keeps_then old h.0 new (record {
  acceptor = ap (λ (n : NodeValue). n.acceptor) h.1.2;
  rounds = ap (λ (n : NodeValue). n.rounds) h.1.2;
}) (installed_keeps m h.0 new out h.2)
part_handled m IsText p old new out (inr h) = record {
  acceptor = ap (λ (n : NodeValue). n.acceptor) h.0.2;
  rounds = ap (λ (n : NodeValue). n.rounds) h.0.2;
}

part_keeps : (m : Meaning) (IsText : List ℕ → Type 0) (old new : NodeValue) (from : ℕ) (p : PartValue)
    (out : OutboxValue) → Takes m IsText old (content.Node from (kinds.Part p)) new out → KeepsRounds old new
part_keeps m IsText old new from p out takes =
    by_handled (handled m IsText old (content.Node from (kinds.Part p)) new out takes)
  where
    by_handled : Handled m IsText old (content.Node from (kinds.Part p)) new out → KeepsRounds old new
    by_handled h =
        let same : HasSame h.mid new = proposed_same h.proposes.0 h.mid new h.first out h.proposes.1 in
        let mid = part_handled m IsText p old h.mid h.first h.handles in
        record { acceptor = same.acceptor ∙ mid.acceptor; rounds = same.rounds ∙ mid.rounds }

pub parts_keep : (m : Meaning) (IsText : List ℕ → Type 0) (from : ℕ) (parts : List PartValue) (old new : NodeValue)
    (envelopes : List EnvelopeValue) → TakesEach m IsText (parts_from from parts) old new envelopes
    → KeepsRounds old new
parts_keep m IsText from [] old new envelopes takes = keeps_as old new takes.0
parts_keep m IsText from (p ∷ parts) old new envelopes takes = keeps_then old takes.0 new
    (part_keeps m IsText old takes.0 from p takes.1 takes.3)
    (parts_keep m IsText from parts takes.0 new takes.2 takes.4)
