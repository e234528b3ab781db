-- What a node of a world does at a nudge.
use Rattle.std.proofs.Common.{◌≡◌, ◌∙◌, ◌⊎◌, inl, inr, ℕ, ◌+◌, ◌<◌, ◌≤◌, ◌||◌, Bool, true, false}
use Rattle.std.proofs.Common.{cond, not, eqb, eqb-true}
use Rattle.std.proofs.Common.{List, [], ◌∷◌, None, Contains, refl, ap, sym, subst, arith}
use Rattle.std.proofs.lemmas.Bool.{cases_Bool, cases_order, eq-eqb}
use Rattle.std.proofs.lemmas.List.Elements.{Contains-append_right}
use Rattle.lk_types.specs.BallotValue.{BallotValue}
use Rattle.lk_types.specs.declared.vote.Vote.{Vote}
use Rattle.lk_messages.specs.Values.{WantValue}
use Rattle.lk_messages.specs.declared.message.Nack.{Nack}
use Rattle.lk_messages.specs.declared.message.NodeMessage.{NodeMessage}
use Rattle.lk_messages.specs.declared.message.NodeMessage.TheVariants as kinds
use Rattle.lk_agreement_laws.proofs.Histories.{contains_more}
use Rattle.lk_state.specs.Meanings.{Meaning}
use Rattle.lk_store_format.specs.Values.{HeaderValue}
use Rattle.lk_learner.proofs.Learnerships.{filter_has}
use Rattle.lk_learner.specs.Learners.{LearnerValue, executed, gathered_bytes, wanted}
use Rattle.lk_members.specs.Ports.{AreAllAbove, is_named}
use Rattle.lk_node.proofs.Nodes.{map_has}
use Rattle.lk_node.specs.Leading.{ProposesAll, having_proposed}
use Rattle.lk_node.specs.NodeValue.{NodeValue}
use Rattle.lk_node.specs.Nudging.{AsksInTerm, AsksOthers, Nudges, SeeksAfresh, TellsIfSilent, TellsProgress, progress}
use Rattle.lk_node.specs.Nudging.{refreshed, remembering, without_gathered}
use Rattle.lk_node.specs.Reminding.{IsTermOf}
use Rattle.lk_node.specs.Telling.{AreOthers, envelope_to}
use Rattle.lk_node_interface.specs.Envelopes.{EnvelopeValue}
use Rattle.lk_node_interface.specs.Outboxes.{OutboxValue, nothing}
use Rattle.lk_node_interface.specs.Ticks.{is_full}
use Rattle.lk_node_interface.specs.declared.input.Input.TheVariants.{Nudge}
use Rattle.lk_node_interface.specs.declared.nudge_reason.NudgeReason.{NudgeReason}
use Rattle.lk_node_interface.specs.declared.nudge_reason.NudgeReason.TheVariants.{Period, TicksWithheld, Fed}
use Rattle.lk_progress.proofs.Hearing.{proposed_learner, proposed_envelopes}
use Rattle.lk_replica.specs.ReplicaValue.{ReplicaValue}
use Rattle.lk_sim.specs.WorldStates.{WorldState}
use Rattle.lk_sim.specs.declared.event.Event.TheVariants as event
use Rattle.lk_world_feeding.proofs.Taking.{StepsFrom, steps_from, then_only}
use Rattle.lk_world_feeding.specs.Asking.{AsksIn, IsNudged}
use Rattle.lk_world_feeding.specs.Nudging.{IsSilent, NudgesThrowAway, SilentNodesTell, TellsIn}
use Rattle.lk_world_progress.proofs.Balloting.{found_has}
use Rattle.lk_world_progress.proofs.Waiting.{left_has}
use Rattle.lk_world_progress.specs.Balloting.{HasSentTo}
use Rattle.lk_world_progress.specs.Stepping.{EventIsStep, IsUpAs}

-- the same is wanted of the same state with the same gathered
pub wanted_same : (l k : LearnerValue) → l.whole ≡ k.whole → l.gathered ≡ k.gathered → wanted l ≡ wanted k
wanted_same l k whole gathered = λ i. record {
  first = (whole i).roster.executed + 1;
  offset = gathered_bytes (gathered i);
}

-- ---- what a nudge leaves and asks

refreshed_has : (P : NodeValue → Type 0) (node : NodeValue) → P (remembering (without_gathered node))
    → P (remembering node) → P (refreshed node)
refreshed_has P node thrown kept = by_test (eqb (gathered_bytes node.learner.gathered) node.gathered_before)
  where
    by_test : (t : Bool) → P (cond t (remembering (without_gathered node)) (remembering node))
    by_test true = thrown
    by_test false = kept

not_same : (i j : ℕ) → (i ≡ j → ⊥) → eqb i j ≡ false
not_same i j ne = elim (cases_Bool (eqb i j)) [ inl e ↦ absurd (ne (eqb-true i j e)) | inr e ↦ e ]

all_above : (is : ℕ → Bool) (low : ℕ) (ns : List ℕ) (k : ℕ) → AreAllAbove is low ns → low < k → is k ≡ true
    → Contains ns k
all_above is low [] k none above passes = absurd (cc (sym passes ∙ none k above))
all_above is low (n ∷ ns) k all above passes =
    elim (cases_order k n) [
      | inl same ↦ (0, omega arith, sym same)
      | inr (inl below) ↦ absurd (cc (sym passes ∙ all.0.least k above below))
      | inr (inr later) ↦ contains_more n ns k (all_above is n ns k all.1 later passes)
    ]

proposed_before : (xs : List Vote) (old new : NodeValue) (before out : OutboxValue)
    → ProposesAll xs old new before out → new.gathered_before ≡ old.gathered_before
proposed_before [] old new before out p = ap (λ (node : NodeValue). node.gathered_before) p.1
proposed_before (x ∷ xs) old new before out p = proposed_before xs (having_proposed old x p.0) new _ out p.1

-- as many bytes are gathered as at the last nudge
abbrev Remembers : NodeValue → Type 0
Remembers node = node.gathered_before ≡ gathered_bytes node.learner.gathered

-- then they are thrown away
refreshed_none : (node : NodeValue) → Remembers node → (refreshed node).learner.gathered ≡ None
refreshed_none node is = by_test (eqb (gathered_bytes node.learner.gathered) node.gathered_before)
    (eq-eqb (gathered_bytes node.learner.gathered) node.gathered_before (sym is))
  where
    by_test : (t : Bool) → t ≡ true
        → (cond t (remembering (without_gathered node)) (remembering node)).learner.gathered ≡ None
    by_test true e = refl
    by_test false e = absurd (cc e)

-- a nudge that comes since time has passed makes it begin afresh
begins_afresh : (reason : NudgeReason) → (reason ≡ Fed → ⊥) → (old new : NodeValue) (out : OutboxValue)
    → Nudges reason old new out → (withheld : Bool) × SeeksAfresh withheld old new out
begins_afresh Period ne old new out k = (false, k)
begins_afresh TicksWithheld ne old new out k = (true, k)
begins_afresh Fed ne old new out k = absurd (ne refl)

module _ (m : Meaning) (IsText : List ℕ → Type 0) (law : EventIsStep m IsText) (old new : WorldState ReplicaValue)
    (n other : ℕ) (r : ReplicaValue) (up : IsUpAs old n r) where
  -- ---- whom it asks or tells

  module _ (reason : NudgeReason) (withheld : Bool) (k : StepsFrom m IsText law n (Nudge reason) r old new)
      (afresh : SeeksAfresh withheld k.step.start k.step.last k.step.out) where
    abbrev start : NodeValue
    start = k.step.start

    abbrev now : NodeValue
    now = refreshed start

    -- the other node is among the others of its window
    other_among : 1 ≤ other → (other ≡ n → ⊥) → is_named other r.node.learner.whole.roster.sets ≡ true
        → (nodes : List ℕ) → AreOthers now nodes → Contains nodes other
    other_among some ne named nodes others =
        let own : now.header.node ≡ n = refreshed_has (λ node. node.header.node ≡ n) start at_start at_start in
        let sets : is_named other now.learner.whole.roster.sets ≡ true =
        refreshed_has (λ node. is_named other node.learner.whole.roster.sets ≡ true) start named_start named_start in
        let differs : not (eqb other now.header.node) ≡ true =
        subst (λ (j : ℕ). not (eqb other j) ≡ true) (sym own) (ap not (not_same other n ne)) in
        subst (λ (l : List ℕ). Contains l other) (sym others.2)
        (filter_has (λ j. not (eqb j now.header.node)) others.0 other
        (all_above (λ j. is_named j now.learner.whole.roster.sets) 0 others.0 other others.1 (omega (arith, some)) sets)
        differs)
      where
        at_start : start.header.node ≡ n
        at_start = ap (λ (h : HeaderValue). h.node) k.header

        named_start : is_named other start.learner.whole.roster.sets ≡ true
        named_start = found_has r start k.found (λ node. is_named other node.learner.whole.roster.sets ≡ true) (λ e. e)
            named

    -- what is gathered stays or is thrown away
    gathered_now : (now.learner.gathered ≡ r.node.learner.gathered) ⊎ (now.learner.gathered ≡ None)
    gathered_now = refreshed_has
        (λ node. (node.learner.gathered ≡ r.node.learner.gathered) ⊎ (node.learner.gathered ≡ None)) start (inr refl)
        (inl (found_has r start k.found (λ node. node.learner.gathered ≡ r.node.learner.gathered) (λ e. e) refl))

    whole_now : now.learner.whole ≡ r.node.learner.whole
    whole_now = refreshed_has (λ node. node.learner.whole ≡ r.node.learner.whole) start at_start at_start
      where
        at_start : start.learner.whole ≡ r.node.learner.whole
        at_start = found_has r start k.found (λ node. node.learner.whole ≡ r.node.learner.whole) (λ e. e) refl

    -- ---- what it leaves

    -- its learner is that of the node that has thrown away or remembered
    learner_left : k.step.last.learner ≡ now.learner
    learner_left = by_nudge afresh
      where
        by_nudge : SeeksAfresh withheld start k.step.last k.step.out → k.step.last.learner ≡ now.learner
        by_nudge (inl a) = let p = a.2.proposes in
            proposed_learner p.0 now k.step.last a.2.asked k.step.out p.1
        by_nudge (inr t) = ap (λ (node : NodeValue). node.learner) t.1

    before_left : k.step.last.gathered_before ≡ now.gathered_before
    before_left = by_nudge afresh
      where
        by_nudge : SeeksAfresh withheld start k.step.last k.step.out → k.step.last.gathered_before ≡ now.gathered_before
        by_nudge (inl a) = let p = a.2.proposes in proposed_before p.0 now k.step.last a.2.asked k.step.out p.1
        by_nudge (inr t) = ap (λ (node : NodeValue). node.gathered_before) t.1

    whole_after_nudge : k.step.after.node.learner.whole ≡ r.node.learner.whole
    whole_after_nudge = left_has k.step.out k.step.last k.step.after (λ node. node.learner.whole ≡ now.learner.whole)
        (λ e. e) k.step.left (ap (λ (l : LearnerValue). l.whole) learner_left) ∙ whole_now

    -- it remembers how much is gathered
    remembers : Remembers k.step.after.node
    remembers = left_has k.step.out k.step.last k.step.after Remembers (λ e. e) k.step.left
        (before_left ∙ refreshed_has Remembers start refl refl
        ∙ ap (λ (l : LearnerValue). gathered_bytes l.gathered) (sym learner_left))

    -- and if it did so before, nothing is
    none_left : Remembers r.node → k.step.after.node.learner.gathered ≡ None
    none_left before = left_has k.step.out k.step.last k.step.after (λ node. node.learner.gathered ≡ None) (λ e. e)
        k.step.left (ap (λ (l : LearnerValue). l.gathered) learner_left
        ∙ refreshed_none start (found_has r start k.found Remembers (λ e. e) before))

    -- ---- with a term

    module _ (b : BallotValue) (term : IsTermOf b r.node.leader) (room : executed r.node.learner < 281474976710656)
        (some : 1 ≤ other) (ne : other ≡ n → ⊥) (named : is_named other r.node.learner.whole.roster.sets ≡ true) where
      abbrev question : NodeMessage
      question = kinds.Want (wanted now.learner)

      asked_in : AsksInTerm now k.step.last k.step.out → Contains k.step.out.envelopes
          (envelope_to start question other)
      asked_in a = subst (λ (l : EnvelopeValue). Contains k.step.out.envelopes l)
          (refreshed_has (λ node. envelope_to node question other ≡ envelope_to start question other) start refl refl)
          (proposed_envelopes a.proposes.0 now k.step.last a.asked k.step.out (envelope_to now question
          other) a.proposes.1
          (by_asks a.asks))
        where
          by_asks : AsksOthers now a.asked → Contains a.asked.envelopes (envelope_to now question other)
          by_asks (inl asks) = subst (λ (o : OutboxValue). Contains o.envelopes (envelope_to now question other))
              (sym asks.1.2.1)
              (Contains-append_right nothing.envelopes _ _
              (map_has (envelope_to now question) asks.1.0 other (other_among some ne named asks.1.0 asks.1.1)))
          by_asks (inr none) =
              let few : executed now.learner < 281474976710656 =
              refreshed_has (λ node. executed node.learner < 281474976710656) start few_start few_start in
              absurd (omega (arith, none.0, few))
            where
              few_start : executed start.learner < 281474976710656
              few_start = found_has r start k.found (λ node. executed node.learner < 281474976710656) (λ e. e) room

      asks_in_term : AsksInTerm now k.step.last k.step.out → AsksIn n other r old new
      asks_in_term a =
          let whole : k.step.after.node.learner.whole ≡ now.learner.whole =
          left_has k.step.out k.step.last k.step.after (λ node. node.learner.whole ≡ now.learner.whole) (λ e. e)
          k.step.left (ap (λ (l : LearnerValue). l.whole) learner_left) in
          let gathered : k.step.after.node.learner.gathered ≡ now.learner.gathered =
          left_has k.step.out k.step.last k.step.after (λ node. node.learner.gathered ≡ now.learner.gathered)
          (λ e. e) k.step.left (ap (λ (l : LearnerValue). l.gathered) learner_left) in record {
            now = k.step.after;
            is = k.step.is;
            whole = whole ∙ whole_now;
            gathered = elim gathered_now [ inl e ↦ inl (gathered ∙ e) | inr e ↦ inr (gathered ∙ e) ];
            asks = k.says other (kinds.Want (wanted k.step.after.node.learner))
                (subst (λ (w : WantValue). Contains k.step.out.envelopes (envelope_to start (kinds.Want w) other))
                (sym (wanted_same k.step.after.node.learner now.learner whole gathered)) (asked_in a));
            only = k.only;
          }

      nudged : AsksIn n other r old new
      nudged = by_term afresh
        where
          still_term : IsTermOf b now.leader
          still_term = refreshed_has (λ node. IsTermOf b node.leader) start at_start at_start
            where
              at_start : IsTermOf b start.leader
              at_start = found_has r start k.found (λ node. IsTermOf b node.leader) (λ e. e) term

          by_term : SeeksAfresh withheld start k.step.last k.step.out → AsksIn n other r old new
          by_term (inl a) = asks_in_term a.2
          by_term (inr none) = absurd (cc (sym none.0 ∙ still_term.1))

    -- ---- without one

    module _ (silent : IsSilent n other reason r) (waited : (withheld || is_full r.node.ticks) ≡ true) where
      told_in : TellsProgress now k.step.out → Contains k.step.out.envelopes
          (envelope_to start (kinds.Nack (progress start)) other)
      told_in t = subst (λ (l : EnvelopeValue). Contains k.step.out.envelopes l)
          (refreshed_has (λ node. envelope_to node (kinds.Nack (progress node)) other
          ≡ envelope_to start (kinds.Nack (progress start)) other) start refl refl)
          (subst (λ (o : OutboxValue). Contains o.envelopes (envelope_to now (kinds.Nack (progress now))
          other)) (sym t.2.1)
          (Contains-append_right nothing.envelopes _ _
          (map_has (envelope_to now (kinds.Nack (progress now))) t.0 other
          (other_among silent.some silent.apart silent.named t.0 t.1))))

      waited_now : (withheld || is_full now.ticks) ≡ true
      waited_now = refreshed_has (λ node. (withheld || is_full node.ticks) ≡ true) start at_start at_start
        where
          at_start : (withheld || is_full start.ticks) ≡ true
          at_start = found_has r start k.found (λ node. (withheld || is_full node.ticks) ≡ true) (λ e. e) waited

      idle_now : now.leader.term ≡ None
      idle_now = refreshed_has (λ node. node.leader.term ≡ None) start at_start at_start
        where
          at_start : start.leader.term ≡ None
          at_start = found_has r start k.found (λ node. node.leader.term ≡ None) (λ e. e) silent.idle

      told : SeeksAfresh withheld start k.step.last k.step.out
          → Contains k.step.out.envelopes (envelope_to start (kinds.Nack (progress start)) other)
      told (inl a) = absurd (cc (sym idle_now ∙ a.1.1))
      told (inr t) = by_silence t.2
        where
          by_silence : TellsIfSilent withheld now k.step.out
              → Contains k.step.out.envelopes (envelope_to start (kinds.Nack (progress start)) other)
          by_silence (inl says) = told_in says.1
          by_silence (inr not_yet) = absurd (cc (sym waited_now ∙ not_yet.0))

      tells_in : TellsIn n other r old new
      tells_in = record {
        now = k.step.after;
        is = k.step.is;
        whole = whole_after_nudge;
        tells = subst (λ (x : Nack). HasSentTo new n other (kinds.Nack x))
            (found_has r start k.found (λ node. progress node ≡ progress r.node) (λ e. e) refl)
            (k.says other (kinds.Nack (progress start)) (told afresh));
        only = k.only;
      }

  nudged_asks : IsNudged m IsText n other r old new → AsksIn n other r old new
  nudged_asks k =
      let s : StepsFrom m IsText law n (Nudge k.1) r old new =
      steps_from m IsText law n (Nudge k.1) (event.Nudge n k.1) r old new up k.8 (refl, refl) in
      let afresh = begins_afresh k.1 k.2 s.step.start s.step.last s.step.out s.step.steps in
      nudged k.1 afresh.0 s afresh.1 k.0 k.3 k.4 k.5 k.6 k.7

pub nudged_node_asks : (m : Meaning) (IsText : List ℕ → Type 0) → EventIsStep m IsText
    → (old new : WorldState ReplicaValue)
    (n other : ℕ) (r : ReplicaValue) → IsUpAs old n r → IsNudged m IsText n other r old new → AsksIn n other r old new
nudged_node_asks m IsText law old new n other r up k = nudged_asks m IsText law old new n other r up k

pub silent_tells : (m : Meaning) (IsText : List ℕ → Type 0) → EventIsStep m IsText → SilentNodesTell m IsText
silent_tells m IsText law old new n other reason r up silent goes =
    by_reason reason silent
    (steps_from m IsText law n (Nudge reason) (event.Nudge n reason) r old new up goes (refl, refl))
  where
    by_reason : (why : NudgeReason) → IsSilent n other why r → StepsFrom m IsText law n (Nudge why) r old new
        → TellsIn n other r old new
    by_reason Period s k = tells_in m IsText law old new n other r up Period false k k.step.steps s s.waited
    by_reason TicksWithheld s k = tells_in m IsText law old new n other r up TicksWithheld true k k.step.steps s refl
    by_reason Fed s k = absurd s.waited

-- ---- two nudges

pub nudges_throw : (m : Meaning) (IsText : List ℕ → Type 0) → EventIsStep m IsText → NudgesThrowAway m IsText
nudges_throw m IsText law old mid new n reason again r up timed timed_again first second =
    let k : StepsFrom m IsText law n (Nudge reason) r old mid =
    steps_from m IsText law n (Nudge reason) (event.Nudge n reason) r old mid up first (refl, refl) in
    let l : StepsFrom m IsText law n (Nudge again) k.step.after mid new =
    steps_from m IsText law n (Nudge again) (event.Nudge n again) k.step.after mid new k.step.is second (refl, refl) in
    let f = begins_afresh reason timed k.step.start k.step.last k.step.out k.step.steps in
    let g = begins_afresh again timed_again l.step.start l.step.last l.step.out l.step.steps in
    record {
      now = l.step.after;
      is = l.step.is;
      whole = whole_after_nudge m IsText law mid new n 0 k.step.after k.step.is again g.0 l g.1
          ∙ whole_after_nudge m IsText law old mid n 0 r up reason f.0 k f.1;
      gathered = none_left m IsText law mid new n 0 k.step.after k.step.is again g.0 l g.1
          (remembers m IsText law old mid n 0 r up reason f.0 k f.1);
      only = then_only n old mid new k.only l.only;
    }
