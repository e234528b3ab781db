-- Ticks of a node that waits, until one begins a ballot.
use Rattle.std.proofs.Common.{◌≡◌, ◌∙◌, inl, inr, ℕ, zero, suc, ◌+◌, ◌<◌, ◌≤◌, ◌++◌, Bool, true, List, [], ◌∷◌, map}
use Rattle.std.proofs.Common.{length, Contains, Some, None, slice_get, refl, ap, sym, subst, arith}
use Rattle.std.proofs.lemmas.Bool.{cases_order}
use Rattle.lk_types.specs.BallotValue.{BallotValue}
use Rattle.lk_types.specs.declared.genesis.Genesis.{Genesis}
use Rattle.lk_store_format.specs.Entries.{plain}
use Rattle.lk_store_format.specs.Values.{HeaderValue}
use Rattle.lk_messages.specs.Grammar.{IsMessage, spelling}
use Rattle.lk_messages.specs.declared.message.NodeMessage.{NodeMessage}
use Rattle.lk_messages.specs.declared.message.NodeMessage.TheVariants as kinds
use Rattle.lk_agreement_laws.proofs.Histories.{contains_more}
use Rattle.lk_agreement_laws.specs.Datagrams.{Datagram}
use Rattle.lk_members.specs.Ports.{AreAllAbove, is_named}
use Rattle.lk_state.specs.Meanings.{Meaning}
use Rattle.lk_learner.specs.Learners.{executed}
use Rattle.lk_node_interface.specs.Envelopes.{EnvelopeValue, batch_of, datagram_of}
use Rattle.lk_node_interface.specs.Outboxes.{OutboxValue}
use Rattle.lk_node_interface.specs.Saying.{saying}
use Rattle.lk_node_interface.specs.Ticks.{is_enough}
use Rattle.lk_node_interface.specs.declared.input.Input.TheVariants.{Tick}
use Rattle.lk_node.specs.Beginning.{BeginsBallot, beginning, greatest_round, next_ballot}
use Rattle.lk_node.specs.Leavings.{header_of}
use Rattle.lk_node.specs.NewBases.{with_snapshot}
use Rattle.lk_node.specs.NodeValue.{NodeValue}
use Rattle.lk_node.specs.Telling.{envelope_to}
use Rattle.lk_node.specs.Waiting.{BeginsWhereDue, index_of, ticked}
use Rattle.lk_progress.specs.Electing.{IsDue}
use Rattle.lk_rebases.proofs.Rebases.{idle_begins}
use Rattle.lk_replica.specs.ReplicaValue.{ReplicaValue}
use Rattle.lk_sim.specs.WorldStates.{WorldState}
use Rattle.lk_sim.specs.declared.event.Event.TheVariants as event
use Rattle.lk_world_progress.proofs.Balloting.{found_has, found_tells}
use Rattle.lk_world_progress.proofs.Noting.{header_fits}
use Rattle.lk_world_progress.proofs.Rebasing.{begun_rests}
use Rattle.lk_world_progress.proofs.Stepping.{event_steps, found_header, has_header, one_replica, up_fits}
use Rattle.lk_world_progress.specs.Stepping.{GoesWell, Holds, IsFound, IsUpAs, TakesStep}
use Rattle.lk_world_progress.specs.Waiting.{TicksInTurn, WorldTicksBegin}
use Rattle.lk_world_leftovers.specs.Persisting.{IsIdleIn, WaitsIn}
use Rattle.lk_healing.proofs.Places.{at_end, none_at_end}
use Rattle.lk_healing.specs.Waits.{BeginsAfter, IsPrepare, MayBeginIn}
use Rattle.lk_healing.specs.declared.asking.Asking.{Asking}

same_some : {X : Type 0} (x y : X) → Some x ≡ Some y → x ≡ y
same_some x y e = cc e

-- a node that is up has a number from 1 on
pub some_number : (m : Meaning) (IsText : List ℕ → Type 0) (w : WorldState ReplicaValue) → Holds m IsText w → (n : ℕ)
    (r : ReplicaValue) → IsUpAs w n r → 1 ≤ n
some_number m IsText w holds n r up =
    let u = up_fits m IsText w holds n r up in
    let kept = u.shown.keeps in
    let h = header_fits kept.entries (plain kept.loose) w.genesis n kept.header kept.holds.on.fit in
    h.1.0

-- whoever passes is listed
pub all_above : (is : ℕ → Bool) (low : ℕ) (ns : List ℕ) (k : ℕ) → AreAllAbove is low ns → low < k → is k ≡ true
    → Contains ns k
all_above is low [] k none above passes = absurd (cc (sym passes ∙ none k above))
all_above is low (n ∷ ns) k all above passes =
    elim (cases_order k n) [
      | inl same ↦ (0, omega arith, sym same)
      | inr (inl below) ↦ absurd (cc (sym passes ∙ all.0.least k above below))
      | inr (inr later) ↦ contains_more n ns k (all_above is n ns k all.1 later passes)
    ]

module _ (m : Meaning) (IsText : List ℕ → Type 0) (n : ℕ) where
  waits_more : (k : ℕ) (old mid new : WorldState ReplicaValue) → WaitsIn m IsText n k old mid
      → GoesWell m IsText mid (event.Tick n) new → IsIdleIn new n → WaitsIn m IsText n (suc k) old new
  waits_more zero old mid new same goes idle =
      (new, subst (λ (w : WorldState ReplicaValue). GoesWell m IsText w (event.Tick n) new) same goes, idle, refl)
  waits_more (suc k) old mid new w goes idle = (w.0, w.1, w.2, waits_more k w.0 mid new w.3 goes idle)

  -- after this many ticks it has begun no ballot, and may still begin one
  pub record HasWaited (start : WorldState ReplicaValue) (k : ℕ) (now : WorldState ReplicaValue) : Type 0 where
    pub holds : Holds m IsText now
    pub after : ReplicaValue
    pub is : IsUpAs now n after
    pub idle : after.node.leader.term ≡ None
    pub round : greatest_round after.node < 281474976710656
    pub position : executed after.node.learner < 281474976710656
    pub named : is_named n after.node.learner.whole.roster.sets ≡ true
    pub waits : WaitsIn m IsText n k start now
    pub ticks : TicksInTurn m IsText n k start now

  pub begins_waiting : (start : WorldState ReplicaValue) → Holds m IsText start → MayBeginIn start n
      → HasWaited start 0 start
  begins_waiting start holds may = record {
    holds = holds;
    after = may.replica;
    is = may.up;
    idle = may.idle;
    round = may.may.round;
    position = may.position;
    named = may.named;
    waits = refl;
    ticks = refl;
  }

  module _ (start old new : WorldState ReplicaValue) (k : ℕ) (w : HasWaited start k old)
      (goes : GoesWell m IsText old (event.Tick n) new) where
    s : TakesStep m IsText old n Tick new
    s = event_steps m IsText old new (event.Tick n) n Tick goes (refl, refl)

    found : IsFound w.after s.start
    found = subst (λ (q : ReplicaValue). IsFound q s.start)
        (one_replica m IsText old w.holds n s.before w.after s.was w.is) s.found

    start_idle : s.start.leader.term ≡ None
    start_idle = found_has w.after s.start found (λ node. node.leader.term ≡ None) (λ q. q) w.idle

    begins : BeginsWhereDue (ticked s.start) s.last s.out
    begins = idle_begins s.start s.last s.out start_idle s.steps

    after_is : s.after.node ≡ s.last
    after_is = s.left.rests (begun_rests (ticked s.start) s.last s.out begins)

    start_has : (P : NodeValue → Type 0) → (P w.after.node → P (with_snapshot w.after.node)) → P w.after.node
        → P s.start
    start_has P keeps p = found_has w.after s.start found P keeps p

    round : greatest_round s.start < 281474976710656
    round = start_has (λ node. greatest_round node < 281474976710656) (λ x. x) w.round

    position : executed s.start.learner < 281474976710656
    position = start_has (λ node. executed node.learner < 281474976710656) (λ x. x) w.position

    abbrev b : BallotValue
    b = next_ballot s.start

    abbrev prepare : NodeMessage
    prepare = kinds.Prepare (next_ballot s.start) (executed s.start.learner + 1)

    header : s.start.header ≡ header_of old.genesis n
    header = found_header w.after s.start found ∙ has_header m IsText old w.holds n w.after w.is

    -- ---- it begins a ballot

    module _ (begun : BeginsBallot (next_ballot (ticked s.start)) (ticked s.start) s.last s.out) where
      asks : IsMessage (saying s.start.header prepare)
          × (s.out.envelopes ≡ map (envelope_to (beginning b (ticked s.start)) prepare) begun.nodes)
      asks = elim begun.asks [
        | inl told ↦ (told.0, ap (λ (o : OutboxValue). o.envelopes) told.1)
        | inr none ↦ absurd (omega (arith, none.0, position))
      ]

      named_there : Contains begun.nodes n
      named_there = all_above (λ k. is_named k s.start.learner.whole.roster.sets) 0 begun.nodes n begun.all
          (some_number m IsText old w.holds n w.after w.is)
          (start_has (λ node. is_named n node.learner.whole.roster.sets ≡ true) (λ x. x) w.named)

      grows : slice_get new.sent (length old.sent) ≡ None → ⊥
      grows none = by_nodes begun.nodes asks.1 named_there
        where
          by_nodes : (ns : List ℕ) → s.out.envelopes ≡ map (envelope_to (beginning b (ticked s.start)) prepare) ns
              → Contains ns n → ⊥
          by_nodes [] envelopes there = omega (arith, there.1)
          by_nodes (k ∷ ks) envelopes there = cc (sym none
              ∙ ap (λ (ds : List Datagram). slice_get ds (length old.sent))
              (s.sent ∙ ap (λ (ls : List EnvelopeValue). old.sent ++ batch_of n ls) envelopes)
              ∙ at_end old.sent _ _)

      is_prepare : (d : Datagram) → slice_get new.sent (length old.sent) ≡ Some d
          → d.bytes ≡ spelling (saying s.start.header prepare)
      is_prepare d at = by_nodes begun.nodes asks.1
        where
          by_nodes : (ns : List ℕ) → s.out.envelopes ≡ map (envelope_to (beginning b (ticked s.start)) prepare) ns
              → d.bytes ≡ spelling (saying s.start.header prepare)
          by_nodes [] envelopes = absurd (cc (sym at ∙ ap (λ (ds : List Datagram). slice_get ds (length old.sent))
              (s.sent ∙ ap (λ (ls : List EnvelopeValue). old.sent ++ batch_of n ls) envelopes) ∙ none_at_end old.sent))
          by_nodes (k ∷ ks) envelopes =
              let first : EnvelopeValue = envelope_to (beginning b (ticked s.start)) prepare k in
              let is : Some d ≡ Some (datagram_of n first) = sym at
              ∙ ap (λ (ds : List Datagram). slice_get ds (length old.sent))
              (s.sent ∙ ap (λ (ls : List EnvelopeValue). old.sent ++ batch_of n ls) envelopes)
              ∙ at_end old.sent (datagram_of n first) _ in
              ap (λ (e : Datagram). e.bytes) (same_some d (datagram_of n first) is)

      due : IsDue w.after.node
      due = found_tells w.after s.start found IsDue
          (λ d. record { idle = d.idle; waited = d.waited; round = d.round; position = d.position })
          (record { idle = start_idle; waited = waited_enough; round = round; position = position })
        where
          waited_enough : is_enough (ticked s.start).ticks (index_of s.start) ≡ true
          waited_enough = elim begins [
            | inl it ↦ it.0
            | inr rests ↦ absurd (cc (sym (ap (λ (node : NodeValue). node.leader.term) begun.becomes)
                ∙ ap (λ (node : NodeValue). node.leader.term) rests.1 ∙ start_idle))
          ]

    -- something was sent, so it has begun one
    module _ (d : Datagram) (at : slice_get new.sent (length old.sent) ≡ Some d) where
      begun_one : BeginsBallot (next_ballot (ticked s.start)) (ticked s.start) s.last s.out
      begun_one = elim begins [
        | inl begun ↦ begun.1
        | inr rests ↦ absurd (cc (sym at ∙ ap (λ (ds : List Datagram). slice_get ds (length old.sent))
            (s.sent ∙ ap (λ (o : OutboxValue). old.sent ++ batch_of n o.envelopes) rests.2) ∙ none_at_end old.sent))
      ]

      pub prepare_there : IsPrepare d
      prepare_there = record {
        cluster = s.start.header.cluster;
        from = s.start.header.node;
        ballot = b;
        first = executed s.start.learner + 1;
        spelled = ((asks begun_one).0, is_prepare begun_one d at);
      }

      pub has_begun : (asking : Asking) → asking ≡ record {
        cluster = prepare_there.cluster;
        ballot = prepare_there.ballot;
        first = prepare_there.first;
      } → k < 28 → BeginsAfter m IsText n start new asking
      unfolding prepare_there s
      has_begun asking is few = record {
        ticks = k;
        few = few;
        due = old;
        waits = w.waits;
        candidate = w.after;
        up = w.is;
        is_due = due begun_one;
        begins = goes;
        cluster = ap (λ (a : Asking). a.cluster) is ∙ ap (λ (y : HeaderValue). y.cluster) header
            ∙ ap (λ (g : Genesis). g.cluster) (sym s.genesis);
        ballot = ap (λ (a : Asking). a.ballot) is
            ∙ found_tells w.after s.start found (λ node. b ≡ next_ballot node) (λ e. e) refl;
        first = ap (λ (a : Asking). a.first) is
            ∙ found_tells w.after s.start found (λ node. executed s.start.learner + 1 ≡ executed node.learner + 1)
            (λ e. e) refl;
      }

    -- nothing was, so it has not
    pub waits_on : slice_get new.sent (length old.sent) ≡ None → HasWaited start (suc k) new
    waits_on none = record {
      holds = goes.after;
      after = s.after;
      is = s.is;
      idle = after_idle;
      round = subst (λ (node : NodeValue). greatest_round node < 281474976710656) (sym same) round;
      position = subst (λ (node : NodeValue). executed node.learner < 281474976710656) (sym same) position;
      named = subst (λ (node : NodeValue). is_named n node.learner.whole.roster.sets ≡ true) (sym same)
          (start_has (λ node. is_named n node.learner.whole.roster.sets ≡ true) (λ x. x) w.named);
      waits = waits_more k start old new w.waits goes
          (λ r c. ap (λ (x : ReplicaValue). x.node.leader.term) (one_replica m IsText new goes.after n r s.after c s.is)
          ∙ after_idle);
      ticks = (old, w.ticks, goes);
    }
      where
        same : s.after.node ≡ ticked s.start
        same = elim begins [
          | inl begun ↦ absurd (grows begun.1 none)
          | inr rests ↦ after_is ∙ rests.1
        ]

        after_idle : s.after.node.leader.term ≡ None
        after_idle = ap (λ (node : NodeValue). node.leader.term) same ∙ start_idle

  -- it does not wait for ever
  pub not_for_ever : WorldTicksBegin m IsText → (start now : WorldState ReplicaValue) (k : ℕ) → Holds m IsText start
      → MayBeginIn start n → HasWaited start k now → 28 ≤ k → ⊥
  not_for_ever law start now k holds may w enough =
      let few = may.may.few in
      let has = law start now n may.index k may.replica holds may.up may.near may.may (omega (arith, few, enough))
      w.ticks in
      cc (sym has.2.1.1 ∙ ap (λ (r : ReplicaValue). r.node.leader.term)
      (one_replica m IsText now w.holds n has.0 w.after has.1 w.is) ∙ w.idle)
