-- A nudge of a node of a world that has no term: what it tells, and what it leaves of the node.
use Rattle.std.proofs.Common.{◌≡◌, ◌∙◌, ◌⊎◌, inl, inr, ℕ, ◌≤◌, ◌++◌, Bool, true, false, cond, not}
use Rattle.std.proofs.Common.{eqb, eqb-true, List, [], ◌∷◌, map, length, Contains, Some, None, slice_get}
use Rattle.std.proofs.Common.{refl, ap, sym, subst, arith}
use Rattle.std.proofs.lemmas.Bool.{cases_Bool, eq-eqb}
use Rattle.lk_types.specs.declared.genesis.Genesis.{Genesis}
use Rattle.lk_store_format.specs.Values.{HeaderValue}
use Rattle.lk_messages.specs.Grammar.{spelling}
use Rattle.lk_messages.specs.declared.message.Nack.{Nack}
use Rattle.lk_messages.specs.declared.message.NodeMessage.{NodeMessage}
use Rattle.lk_messages.specs.declared.message.NodeMessage.TheVariants as kinds
use Rattle.lk_agreement_laws.specs.Datagrams.{Datagram}
use Rattle.lk_members.specs.Ports.{is_named}
use Rattle.lk_state.specs.Meanings.{Meaning}
use Rattle.lk_learner.proofs.Learnerships.{filter_has}
use Rattle.lk_learner.specs.Learners.{executed, gathered_bytes}
use Rattle.lk_node_interface.specs.Envelopes.{EnvelopeValue, batch_of, datagram_of}
use Rattle.lk_node_interface.specs.Outboxes.{OutboxValue}
use Rattle.lk_node_interface.specs.Saying.{saying}
use Rattle.lk_node_interface.specs.declared.input.Input.TheVariants.{Nudge}
use Rattle.lk_node_interface.specs.declared.nudge_reason.NudgeReason.TheVariants.{TicksWithheld}
use Rattle.lk_node.proofs.Nodes.{map_has}
use Rattle.lk_node.specs.Leavings.{header_of}
use Rattle.lk_node.specs.NodeValue.{NodeValue}
use Rattle.lk_node.specs.Nudging.{Nudges, TellsIfSilent, TellsProgress, progress, refreshed, remembering}
use Rattle.lk_node.specs.Nudging.{without_gathered}
use Rattle.lk_node.specs.Telling.{AreOthers, envelope_to}
use Rattle.lk_replica.specs.ReplicaValue.{ReplicaValue}
use Rattle.lk_sim.specs.WorldStates.{WorldState}
use Rattle.lk_sim.specs.declared.event.Event.TheVariants as event
use Rattle.lk_sim_nodes.specs.declared.sim_node.RunState.{RunState}
use Rattle.lk_world_progress.proofs.Balloting.{found_has, found_tells}
use Rattle.lk_world_progress.proofs.Delivering.{among, still}
use Rattle.lk_world_progress.proofs.Sending.{sent_as}
use Rattle.lk_world_progress.proofs.Stepping.{event_steps, found_header, has_header, one_replica}
use Rattle.lk_world_progress.specs.Balloting.{HasSentTo}
use Rattle.lk_world_progress.specs.Delivering.{IsRested}
use Rattle.lk_world_progress.specs.Stepping.{GoesWell, IsFound, IsUpAs, Lives, TakesStep}
use Rattle.lk_healing.proofs.Asks.{AsksNothing, nudge_asks}
use Rattle.lk_healing.proofs.Gains.{Stays, stays_found, stays_trans}
use Rattle.lk_healing.proofs.Places.{at_end, none_at_end}
use Rattle.lk_healing.proofs.Rests.{WritesNothing, nudge_rests}
use Rattle.lk_healing.proofs.Waits.{all_above}
use Rattle.lk_healing.specs.Feeds.{RestsBut}
use Rattle.lk_healing.specs.Tellings.{HasTold, IsNack, MayTell}
use Rattle.lk_healing.specs.declared.progress.Progress.{Progress}

same_some : {X : Type 0} (x y : X) → Some x ≡ Some y → x ≡ y
same_some x y e = cc e

not_same : (i j : ℕ) → (i ≡ j → ⊥) → eqb i j ≡ false
not_same i j ne = elim (cases_Bool (eqb i j)) [ inl e ↦ absurd (ne (eqb-true i j e)) | inr e ↦ e ]

-- ---- a node

refreshed_has : (P : NodeValue → Type 0) (node : NodeValue) → P (remembering (without_gathered node))
    → P (remembering node) → P (refreshed node)
refreshed_has P node thrown kept = by_test (eqb (gathered_bytes node.learner.gathered) node.gathered_before)
  where
    by_test : (t : Bool) → P (cond t (remembering (without_gathered node)) (remembering node))
    by_test true = thrown
    by_test false = kept

-- as many bytes are gathered as at the last nudge
abbrev pub Remembers : NodeValue → Type 0
Remembers node = node.gathered_before ≡ gathered_bytes node.learner.gathered

-- then they are thrown away
refreshed_none : (node : NodeValue) → Remembers node → (refreshed node).learner.gathered ≡ None
refreshed_none node is = by_test (eqb (gathered_bytes node.learner.gathered) node.gathered_before)
    (eq-eqb (gathered_bytes node.learner.gathered) node.gathered_before (sym is))
  where
    by_test : (t : Bool) → t ≡ true
        → (cond t (remembering (without_gathered node)) (remembering node)).learner.gathered ≡ None
    by_test true e = refl
    by_test false e = absurd (cc e)

-- and otherwise they stay
refreshed_kept : (node : NodeValue) → (Remembers node → ⊥)
    → (refreshed node).learner.gathered ≡ node.learner.gathered
refreshed_kept node grown = by_test (eqb (gathered_bytes node.learner.gathered) node.gathered_before) refl
  where
    by_test : (t : Bool) → eqb (gathered_bytes node.learner.gathered) node.gathered_before ≡ t
        → (cond t (remembering (without_gathered node)) (remembering node)).learner.gathered ≡ node.learner.gathered
    by_test true e = absurd (grown (sym (eqb-true (gathered_bytes node.learner.gathered) node.gathered_before e)))
    by_test false e = refl

stays_refreshed : (node : NodeValue) → Stays node (refreshed node)
stays_refreshed node = refreshed_has (Stays node) node
    (record {
      lasts = record {
        whole = refl;
        pairs = refl;
        votes = λ v c. c;
        near = λ n. record { alpha_is = n.alpha_is; snapshot = n.snapshot; votes = n.votes };
      };
      idle = λ e. e;
      waiting = λ e. e;
      round = λ e. e;
    })
    (record {
      lasts = record { whole = refl; pairs = refl; votes = λ v c. c; near = λ n. n };
      idle = λ e. e;
      waiting = λ e. e;
      round = λ e. e;
    })

nudged : (start last : NodeValue) (out : OutboxValue) → start.leader.term ≡ None → Nudges TicksWithheld start last out
    → (last ≡ refreshed start) × TellsProgress (refreshed start) out
nudged start last out idle n = by_case n
  where
    idle_now : (refreshed start).leader.term ≡ None
    idle_now = refreshed_has (λ node. node.leader.term ≡ None) start idle idle

    by_silence : TellsIfSilent true (refreshed start) out → TellsProgress (refreshed start) out
    by_silence (inl says) = says.1
    by_silence (inr not_yet) = absurd (cc not_yet.0)

    by_case : Nudges TicksWithheld start last out → (last ≡ refreshed start) × TellsProgress (refreshed start) out
    by_case (inl asks) = absurd (cc (sym idle_now ∙ asks.1.1))
    by_case (inr tells) = (tells.1, by_silence tells.2)

nudge_writes : (start last : NodeValue) (out : OutboxValue)
    → start.leader.term ≡ None → Nudges TicksWithheld start last out
    → WritesNothing start last out
nudge_writes start last out idle n =
    let k = nudged start last out idle n in
    record {
      entries = ap (λ (o : OutboxValue). o.entries) k.1.2.1;
      sync = ap (λ (o : OutboxValue). o.sync) k.1.2.1;
      rebase = ap (λ (o : OutboxValue). o.rebase) k.1.2.1;
      reach = ap (λ (node : NodeValue). executed node.learner) k.0
          ∙ refreshed_has (λ node. executed node.learner ≡ executed start.learner) start refl refl;
      snapshot = ap (λ (node : NodeValue). node.acceptor.state.snapshot_position) k.0
          ∙ refreshed_has (λ node. node.acceptor.state.snapshot_position ≡ start.acceptor.state.snapshot_position)
          start refl refl;
    }

-- ---- a node of a world

module _ (m : Meaning) (IsText : List ℕ → Type 0) (old new : WorldState ReplicaValue) (n : ℕ) (r : ReplicaValue)
    (up : IsUpAs old n r) (idle : r.node.leader.term ≡ None)
    (goes : GoesWell m IsText old (event.Nudge n TicksWithheld) new)
  where
    s : TakesStep m IsText old n (Nudge TicksWithheld) new
    s = event_steps m IsText old new (event.Nudge n TicksWithheld) n (Nudge TicksWithheld) goes (refl, refl)

    found : IsFound r s.start
    found = subst (λ (q : ReplicaValue). IsFound q s.start) (one_replica m IsText old goes.before n s.before r s.was up)
        s.found

    idle_as : (start : NodeValue) → IsFound r start → start.leader.term ≡ None
    idle_as start f = found_has r start f (λ node. node.leader.term ≡ None) (λ q. q) idle

    did : (s.last ≡ refreshed s.start) × TellsProgress (refreshed s.start) s.out
    did = nudged s.start s.last s.out (idle_as s.start found) s.steps

    after_is : s.after.node ≡ refreshed s.start
    after_is = s.left.rests (nudge_writes s.start s.last s.out (idle_as s.start found) s.steps).rebase ∙ did.0

    -- what it leaves
    pub record Nudged : Type 0 where
      pub after : ReplicaValue
      pub is : IsUpAs new n after
      pub stays : Stays r.node after.node
      pub remembers : Remembers after.node
      pub none : Remembers r.node → after.node.learner.gathered ≡ None
      pub kept : (Remembers r.node → ⊥) → after.node.learner.gathered ≡ r.node.learner.gathered
      pub rested : IsRested new n
      pub others : (k : ℕ) (run_state : RunState ReplicaValue) → (k ≡ n → ⊥) → Lives old k run_state
          → Lives new k run_state
      pub rests : (b a : ℕ) → (n ≡ b) ⊎ (n ≡ a) → RestsBut b a old new
      pub genesis : new.genesis ≡ old.genesis
      -- if no rebase was due, its snapshot is the same
      pub same : IsRested old n → (after.node.learner.snapshot_position ≡ r.node.learner.snapshot_position)
          × (after.node.learner.snapshot ≡ r.node.learner.snapshot)

    asks : AsksNothing old new
    asks = nudge_asks m IsText old new n goes

    pub was_nudged : Nudged
    was_nudged = record {
      after = s.after;
      is = s.is;
      stays = subst (λ (node : NodeValue). Stays r.node node) (sym after_is)
          (stays_trans r.node s.start (refreshed s.start) (stays_found r s.start found) (stays_refreshed s.start));
      remembers = subst Remembers (sym after_is) (refreshed_has Remembers s.start refl refl);
      none = λ was. ap (λ (node : NodeValue). node.learner.gathered) after_is
          ∙ refreshed_none s.start (found_has r s.start found Remembers (λ e. e) was);
      kept = λ grown. ap (λ (node : NodeValue). node.learner.gathered) after_is
          ∙ refreshed_kept s.start (λ e. grown (found_tells r s.start found Remembers (λ x. x) e))
          ∙ found_has r s.start found (λ node. node.learner.gathered ≡ r.node.learner.gathered) (λ e. e) refl;
      rested = nudge_rests m IsText old new n r up goes
          (λ start last out f steps. nudge_writes start last out (idle_as start f) steps);
      others = s.others;
      rests = λ b a is. record {
        rests = λ k run_state not_b not_a c. s.others k run_state
            (λ e. elim is [ inl one ↦ not_b (e ∙ one) | inr two ↦ not_a (e ∙ two) ]) c;
        sent = still old new (batch_of n s.out.envelopes) s.sent;
        asked = asks.asked;
        genesis = s.genesis;
      };
      genesis = s.genesis;
      same = λ rested.
          let start : s.start ≡ r.node = found.rests (rested r up) in (
            ap (λ (node : NodeValue). node.learner.snapshot_position) after_is
                ∙ refreshed_has (λ node. node.learner.snapshot_position ≡ s.start.learner.snapshot_position)
                s.start refl
                refl
                ∙ ap (λ (node : NodeValue). node.learner.snapshot_position) start,
            ap (λ (node : NodeValue). node.learner.snapshot) after_is
                ∙ refreshed_has (λ node. node.learner.snapshot ≡ s.start.learner.snapshot) s.start refl refl
                ∙ ap (λ (node : NodeValue). node.learner.snapshot) start,
          );
    }

    -- ---- what it tells

    header : s.start.header ≡ header_of old.genesis n
    header = found_header r s.start found ∙ has_header m IsText old goes.before n r up

    progress_is : progress (refreshed s.start) ≡ progress r.node
    progress_is = refreshed_has (λ node. progress node ≡ progress r.node) s.start same_progress same_progress
      where
        same_progress : progress s.start ≡ progress r.node
        same_progress = found_has r s.start found (λ node. progress node ≡ progress r.node) (λ e. e) refl

    abbrev says : NodeMessage
    says = kinds.Nack (progress (refreshed s.start))

    envelopes : s.out.envelopes ≡ map (envelope_to (refreshed s.start) says) did.1.0
    envelopes = ap (λ (o : OutboxValue). o.envelopes) did.1.2.1

    -- what was sent first is such a rejection
    module _ (d : Datagram) (at : slice_get new.sent (length old.sent) ≡ Some d) where
      bytes : d.bytes ≡ spelling (saying (refreshed s.start).header says)
      bytes = by_nodes did.1.0 envelopes
        where
          by_nodes : (ns : List ℕ) → s.out.envelopes ≡ map (envelope_to (refreshed s.start) says) ns
              → d.bytes ≡ spelling (saying (refreshed s.start).header says)
          by_nodes [] is = absurd (cc (sym at ∙ ap (λ (ds : List Datagram). slice_get ds (length old.sent))
              (s.sent ∙ ap (λ (ls : List EnvelopeValue). old.sent ++ batch_of n ls) is) ∙ none_at_end old.sent))
          by_nodes (k ∷ ks) is =
              let first : EnvelopeValue = envelope_to (refreshed s.start) says k in
              let same : Some d ≡ Some (datagram_of n first) = sym at
              ∙ ap (λ (ds : List Datagram). slice_get ds (length old.sent))
              (s.sent ∙ ap (λ (ls : List EnvelopeValue). old.sent ++ batch_of n ls) is)
              ∙ at_end old.sent (datagram_of n first) _ in
              ap (λ (e : Datagram). e.bytes) (same_some d (datagram_of n first) same)

      pub first_told : IsNack d
      first_told = record {
        cluster = (refreshed s.start).header.cluster;
        from = (refreshed s.start).header.node;
        nack = progress (refreshed s.start);
        spelled = (did.1.2.0, bytes);
      }

      pub has_told : (p : Progress) → p ≡ record { cluster = first_told.cluster; nack = first_told.nack }
          → HasTold m IsText n old new p
      unfolding first_told
      has_told p is = record {
        nudged = goes;
        cluster = ap (λ (y : Progress). y.cluster) is
            ∙ refreshed_has (λ node. node.header.cluster ≡ new.genesis.cluster) s.start cluster cluster;
        tells = λ q c. ap (λ (y : Progress). y.nack) is ∙ progress_is
            ∙ ap (λ (y : ReplicaValue). progress y.node) (one_replica m IsText old goes.before n r q up c);
      }
        where
          cluster : s.start.header.cluster ≡ new.genesis.cluster
          cluster = ap (λ (y : HeaderValue). y.cluster) header ∙ ap (λ (g : Genesis). g.cluster) (sym s.genesis)

    -- and something was sent
    module _ (other : ℕ) (some : 1 ≤ other) (apart : other ≡ n → ⊥)
        (named : is_named other r.node.learner.whole.roster.sets ≡ true) where
      other_among : (nodes : List ℕ) → AreOthers (refreshed s.start) nodes → Contains nodes other
      other_among nodes others =
          let own : (refreshed s.start).header.node ≡ n = refreshed_has (λ node. node.header.node ≡ n) s.start
          (ap (λ (h : HeaderValue). h.node) header) (ap (λ (h : HeaderValue). h.node) header) in
          let at_start : is_named other s.start.learner.whole.roster.sets ≡ true = found_has r s.start found
          (λ node. is_named other node.learner.whole.roster.sets ≡ true) (λ e. e) named in
          let sets : is_named other (refreshed s.start).learner.whole.roster.sets ≡ true = refreshed_has
          (λ node. is_named other node.learner.whole.roster.sets ≡ true) s.start at_start at_start in
          let differs : not (eqb other (refreshed s.start).header.node) ≡ true =
          subst (λ (j : ℕ). not (eqb other j) ≡ true) (sym own) (ap not (not_same other n apart)) in
          subst (λ (l : List ℕ). Contains l other) (sym others.2)
          (filter_has (λ j. not (eqb j (refreshed s.start).header.node)) others.0 other
          (all_above (λ j. is_named j (refreshed s.start).learner.whole.roster.sets) 0 others.0 other others.1
          (omega (arith, some)) sets) differs)

      pub something_told : slice_get new.sent (length old.sent) ≡ None → ⊥
      something_told none = by_nodes did.1.0 envelopes (other_among did.1.0 did.1.1)
        where
          by_nodes : (ns : List ℕ) → s.out.envelopes ≡ map (envelope_to (refreshed s.start) says) ns
              → Contains ns other → ⊥
          by_nodes [] is there = omega (arith, there.1)
          by_nodes (k ∷ ks) is there = cc (sym none ∙ ap (λ (ds : List Datagram). slice_get ds (length old.sent))
              (s.sent ∙ ap (λ (ls : List EnvelopeValue). old.sent ++ batch_of n ls) is)
              ∙ at_end old.sent _ _)

      -- so it may tell again
      pub tells_again : MayTell new n
      tells_again = record {
        replica = s.after;
        up = s.is;
        idle = ap (λ (node : NodeValue). node.leader.term) after_is
            ∙ refreshed_has (λ node. node.leader.term ≡ None) s.start (idle_as s.start found) (idle_as s.start found);
        other = other;
        some = some;
        apart = apart;
        named = subst (λ (node : NodeValue). is_named other node.learner.whole.roster.sets ≡ true) (sym after_is)
            (refreshed_has (λ node. is_named other node.learner.whole.roster.sets ≡ true) s.start at_start at_start);
      }
        where
          at_start : is_named other s.start.learner.whole.roster.sets ≡ true
          at_start = found_has r s.start found (λ node. is_named other node.learner.whole.roster.sets ≡ true) (λ e. e)
              named

      -- and the other one is told
      pub other_told : HasSentTo new n other (kinds.Nack (progress r.node))
      other_told = subst (λ (k : Nack). HasSentTo new n other (kinds.Nack k)) progress_is
          (sent_as old new n other s.start says header s.genesis
          (subst (λ (l : EnvelopeValue). Contains new.sent (datagram_of n l))
          (refreshed_has (λ node. envelope_to node says other ≡ envelope_to s.start says other) s.start refl refl)
          (among n s.out.envelopes old new s.sent (envelope_to (refreshed s.start) says other)
          (subst (λ (ls : List EnvelopeValue). Contains ls (envelope_to (refreshed s.start) says other)) (sym envelopes)
          (map_has (envelope_to (refreshed s.start) says) did.1.0 other (other_among did.1.0 did.1.1))))))
