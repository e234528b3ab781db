-- A node of a world that is behind asks.
use Rattle.std.proofs.Common.{◌≡◌, ◌∙◌, inl, inr, ℕ, ◌<◌, false, List, Option, Some, None, Contains, refl, ap, sym}
use Rattle.std.proofs.Common.{subst, arith}
use Rattle.std.proofs.lemmas.List.Elements.{Contains-push}
use Rattle.lk_types.specs.Ballots.{is_below}
use Rattle.lk_messages.specs.Values.{WantValue}
use Rattle.lk_messages.specs.declared.message.Content.TheVariants as content
use Rattle.lk_messages.specs.declared.message.NodeMessage.{NodeMessage}
use Rattle.lk_messages.specs.declared.message.NodeMessage.TheVariants as kinds
use Rattle.lk_state.specs.Meanings.{Meaning}
use Rattle.lk_learner.specs.Learners.{LearnerValue, executed, wanted}
use Rattle.lk_store_format.specs.Values.{HeaderValue}
use Rattle.lk_node.specs.CatchingUp.{AsksOn}
use Rattle.lk_node.specs.NodeValue.{NodeValue}
use Rattle.lk_node.specs.Nudging.{AsksLeader, Nudges}
use Rattle.lk_node.specs.Telling.{envelope_to}
use Rattle.lk_node_interface.specs.Outboxes.{OutboxValue, nothing}
use Rattle.lk_node_interface.specs.declared.input.Input.{Input}
use Rattle.lk_node_interface.specs.declared.input.Input.TheVariants.{Nudge, Datagram as Heard}
use Rattle.lk_node_interface.specs.declared.nudge_reason.NudgeReason.TheVariants.{Fed}
use Rattle.lk_progress.specs.Feeding.{Asks, FollowerAsks, LaggingNodeAsks}
use Rattle.lk_replica.specs.ReplicaValue.{ReplicaValue}
use Rattle.lk_sim.specs.WorldStates.{WorldState}
use Rattle.lk_sim.specs.declared.event.Event.TheVariants as event
use Rattle.lk_world_feeding.proofs.Nudging.{nudged_node_asks, wanted_same}
use Rattle.lk_world_feeding.proofs.Taking.{IsAboutProgress, StepsFrom, TakesFrom, steps_from, taken_learner, takes_from}
use Rattle.lk_world_feeding.specs.Asking.{AskersKeepGathered, AsksIn, ComesToAsk, ComesToAskOn, HearsOfMore}
use Rattle.lk_world_feeding.specs.Asking.{IsNotified, IsNudgedOn, IsRejected, NodesThatAreBehindAsk}
use Rattle.lk_world_progress.proofs.Balloting.{found_has}
use Rattle.lk_world_progress.proofs.Waiting.{left_has}
use Rattle.lk_world_progress.specs.Stepping.{EventIsStep, IsUpAs}

-- a node that has executed fewer than 2^48 positions, and asks the other one alone, asks it for what it lacks
asks_alone : (node : NodeValue) (other : ℕ) (out : OutboxValue) → executed node.learner < 281474976710656
    → AsksOn node other out → Asks node other out
asks_alone node other out less (inl k) =
    let question = kinds.Want (wanted node.learner) in
    subst (λ (o : OutboxValue). Contains o.envelopes (envelope_to node question other)) (sym k.1.1)
    (Contains-push nothing.envelopes (envelope_to node question other))
asks_alone node other out less (inr k) = absurd (omega (arith, less, k.0))

module _ (m : Meaning) (IsText : List ℕ → Type 0) (law : EventIsStep m IsText) (old new : WorldState ReplicaValue)
    (n other : ℕ) (r : ReplicaValue) (up : IsUpAs old n r) where
  -- ---- a step that leaves the learner makes it ask

  abbrev Hearing : Type 0
  Hearing = (k : AsksIn n other r old new) × (k.now.node.learner.gathered ≡ r.node.learner.gathered)

  step_asks : (i : Input) (k : StepsFrom m IsText law n i r old new) → k.step.last.learner ≡ k.step.start.learner
      → Asks k.step.start other k.step.out → Hearing
  step_asks i k same asks =
      let s = k.step in
      let whole : s.after.node.learner.whole ≡ s.start.learner.whole =
      left_has s.out s.last s.after (λ node. node.learner.whole ≡ s.start.learner.whole) (λ e. e) s.left
      (ap (λ (l : LearnerValue). l.whole) same) in
      let gathered : s.after.node.learner.gathered ≡ s.start.learner.gathered =
      left_has s.out s.last s.after (λ node. node.learner.gathered ≡ s.start.learner.gathered) (λ e. e) s.left
      (ap (λ (l : LearnerValue). l.gathered) same) in
      let kept : s.after.node.learner.gathered ≡ r.node.learner.gathered = gathered
      ∙ found_has r s.start k.found (λ node. node.learner.gathered ≡ r.node.learner.gathered) (λ e. e) refl in (
        record {
          now = s.after;
          is = s.is;
          whole = whole ∙ found_has r s.start k.found (λ node. node.learner.whole ≡ r.node.learner.whole)
              (λ e. e) refl;
          gathered = inl kept;
          asks = k.says other (kinds.Want (wanted s.after.node.learner))
              (subst (λ (w : WantValue). Contains s.out.envelopes (envelope_to s.start (kinds.Want w) other))
              (sym (wanted_same s.after.node.learner s.start.learner whole gathered)) asks);
          only = k.only;
        },
        kept,
      )

  -- ---- it hears of more

  heard_asks : (x : NodeMessage) → IsAboutProgress x → (k : TakesFrom m IsText law n (content.Node other x) r old new)
      → Asks k.steps.step.start other k.steps.step.out → Hearing
  heard_asks x about k asks =
      let s = k.steps.step in
      step_asks (Heard k.bytes) k.steps (taken_learner m IsText s.start s.last other x s.out about k.takes) asks

  rejected_asks : LaggingNodeAsks m IsText → IsRejected m IsText n other r old new → Hearing
  rejected_asks nack_asks k =
      let t : TakesFrom m IsText law n (content.Node other (kinds.Nack k.0)) r old new =
      takes_from m IsText law n (content.Node other (kinds.Nack k.0)) r old new up k.2 in
      heard_asks (kinds.Nack k.0) tt t
      (nack_asks t.steps.step.start t.steps.step.last other k.0 t.steps.step.out t.takes
      (found_has r t.steps.step.start t.steps.found (λ node. executed node.learner < k.0.executed) (λ e. e) k.1))

  notified_asks : FollowerAsks m IsText → IsNotified m IsText n other r old new → Hearing
  notified_asks lead_asks k =
      let t : TakesFrom m IsText law n (content.Node other (kinds.Lead k.0 k.1)) r old new =
      takes_from m IsText law n (content.Node other (kinds.Lead k.0 k.1)) r old new up k.4 in
      heard_asks (kinds.Lead k.0 k.1) tt t
      (lead_asks t.steps.step.start t.steps.step.last other k.0 k.1 t.steps.step.out t.takes
      (found_has r t.steps.step.start t.steps.found (λ node. is_below k.0 node.acceptor.state.promised ≡ false) (λ e. e)
      k.2)
      (found_has r t.steps.step.start t.steps.found (λ node. executed node.learner < k.1) (λ e. e) k.3))

  hearing_asks : LaggingNodeAsks m IsText → FollowerAsks m IsText → HearsOfMore m IsText n other r old new → Hearing
  hearing_asks nack_asks lead_asks (inl k) = rejected_asks nack_asks k
  hearing_asks nack_asks lead_asks (inr k) = notified_asks lead_asks k

  -- ---- it is nudged because it was fed

  module _ (nudge : IsNudgedOn m IsText n other r old new) (k : StepsFrom m IsText law n (Nudge Fed) r old new) where
    abbrev start : NodeValue
    start = k.step.start

    idle : start.leader.term ≡ None
    idle = found_has r start k.found (λ node. node.leader.term ≡ None) (λ e. e) nudge.0

    known : start.known ≡ Some other
    known = found_has r start k.found (λ node. node.known ≡ Some other) (λ e. e) nudge.1

    room : executed start.learner < 281474976710656
    room = found_has r start k.found (λ node. executed node.learner < 281474976710656) (λ e. e) nudge.3

    leader_asked : AsksLeader start.known start k.step.out → Asks start other k.step.out
    leader_asked asks = by_known (subst (λ (o : Option ℕ). AsksLeader o start k.step.out) known asks)
      where
        by_known : AsksLeader (Some other) start k.step.out → Asks start other k.step.out
        by_known (inl on) = asks_alone start other k.step.out room on.1
        by_known (inr own) = absurd (nudge.2 (own.0 ∙ ap (λ (h : HeaderValue). h.node) k.header))

    asked_on : Nudges Fed start k.step.last k.step.out → Hearing
    asked_on (inl proposes) = absurd (cc (sym idle ∙ proposes.1.1))
    asked_on (inr asks) = step_asks (Nudge Fed) k (ap (λ (node : NodeValue). node.learner) asks.1) (leader_asked asks.2)

  nudged_on_asks : IsNudgedOn m IsText n other r old new → Hearing
  nudged_on_asks k =
      let s : StepsFrom m IsText law n (Nudge Fed) r old new =
      steps_from m IsText law n (Nudge Fed) (event.Nudge n Fed) r old new up k.4 (refl, refl) in
      asked_on k s s.step.steps

  asks_keeping : LaggingNodeAsks m IsText → FollowerAsks m IsText → ComesToAskOn m IsText n other r old new → Hearing
  asks_keeping nack_asks lead_asks (inl k) = hearing_asks nack_asks lead_asks k
  asks_keeping nack_asks lead_asks (inr k) = nudged_on_asks k

  comes_to_ask : LaggingNodeAsks m IsText → FollowerAsks m IsText → ComesToAsk m IsText n other r old new
      → AsksIn n other r old new
  comes_to_ask nack_asks lead_asks (inl k) = (asks_keeping nack_asks lead_asks k).0
  comes_to_ask nack_asks lead_asks (inr k) = nudged_node_asks m IsText law old new n other r up k

pub behind_asks : (m : Meaning) (IsText : List ℕ → Type 0) → EventIsStep m IsText → LaggingNodeAsks m IsText
    → FollowerAsks m IsText → NodesThatAreBehindAsk m IsText
behind_asks m IsText law nack_asks lead_asks old new n other r up k =
    comes_to_ask m IsText law old new n other r up nack_asks lead_asks k

pub askers_keep : (m : Meaning) (IsText : List ℕ → Type 0) → EventIsStep m IsText → LaggingNodeAsks m IsText
    → FollowerAsks m IsText → AskersKeepGathered m IsText
askers_keep m IsText law nack_asks lead_asks old new n other r up k =
    asks_keeping m IsText law old new n other r up nack_asks lead_asks k
