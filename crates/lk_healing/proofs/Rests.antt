-- A step that writes nothing leaves no rebase due.
use Rattle.std.proofs.Common.{◌≡◌, ◌∙◌, ◌⊎◌, inl, inr, ℕ, ◌+◌, ◌++◌, false, List, [], ◌∷◌, length, Some, None}
use Rattle.std.proofs.Common.{ap, sym, subst, arith, append-nil}
use Rattle.std.specs.Prelude.{⊤}
use Rattle.std.proofs.lemmas.List.{length-append}
use Rattle.lk_types.specs.declared.entry.Entry.{Entry}
use Rattle.lk_types.specs.declared.genesis.Genesis.{Genesis}
use Rattle.lk_disk.specs.Disk.{Disk, contents}
use Rattle.lk_disk.specs.declared.trap.Trap.{Trap}
use Rattle.lk_disk.specs.declared.trap.Trap.TheVariants.{Off, Fail, Arm}
use Rattle.lk_store_format.specs.Entries.{plain, spelling, spelling_of_all}
use Rattle.lk_store_format.specs.Standings.{HasHeader}
use Rattle.lk_store_format.specs.Values.{BaseValue, HeaderValue}
use Rattle.lk_store_format.specs.declared.stored.Stored.{Stored}
use Rattle.lk_store_format.specs.declared.stored.Stored.TheVariants.{Base}
use Rattle.lk_log.proofs.Room.{spelling_room}
use Rattle.lk_log.specs.Stores.{HoldsEntries, HoldsOn, next_base}
use Rattle.lk_log.specs.StoreValue.{StoreValue}
use Rattle.lk_messages.specs.Grammar.{Spells}
use Rattle.lk_messages.specs.declared.message.Content.{Content}
use Rattle.lk_agreement_laws.specs.Datagrams.{Datagram}
use Rattle.lk_agreement_laws.specs.declared.party.Party.TheVariants as party
use Rattle.lk_state.specs.Meanings.{Meaning}
use Rattle.lk_learner.specs.Learners.{executed}
use Rattle.lk_node_interface.specs.Envelopes.{EnvelopeValue}
use Rattle.lk_node_interface.specs.Outboxes.{OutboxValue}
use Rattle.lk_node_interface.specs.declared.input.Input.{Input}
use Rattle.lk_node_interface.specs.declared.input.Input.TheVariants.{Nudge, Datagram as Heard}
use Rattle.lk_node_interface.specs.declared.nudge_reason.NudgeReason.TheVariants.{TicksWithheld}
use Rattle.lk_node.specs.Keeping.{StoreKeeps}
use Rattle.lk_node.specs.Leavings.{header_of}
use Rattle.lk_node.specs.NewBases.{snapshot_span, standing_of}
use Rattle.lk_node.specs.NodeValue.{NodeValue}
use Rattle.lk_node.specs.Steps.{Steps}
use Rattle.lk_progress.specs.Hearing.{Takes}
use Rattle.lk_recovery.specs.Compacting.{IsDue, IsSameStore}
use Rattle.lk_replica.specs.Behaviours.{Behaviour}
use Rattle.lk_replica.specs.ReplicaValue.{ReplicaValue}
use Rattle.lk_replica.specs.Taking.{IsTaken, IsTakenAs}
use Rattle.lk_sim.specs.Events.{GoesOn, IsDelivered, IsGiven}
use Rattle.lk_sim.specs.WorldStates.{WorldState}
use Rattle.lk_sim.specs.declared.event.Event.TheVariants as event
use Rattle.lk_sim_nodes.specs.Sends.{after_sends, counting}
use Rattle.lk_sim_nodes.specs.declared.sim_node.RunState.TheVariants.{Up}
use Rattle.lk_world_progress.proofs.Stepping.{counted, due_or_not, found_header, has_header, is_there, one_replica}
use Rattle.lk_world_progress.proofs.Stepping.{shown, was_there}
use Rattle.lk_world_progress.specs.Delivering.{Hears, IsRested}
use Rattle.lk_world_progress.specs.Stepping.{behaviour, GoesWell, Holds, IsFound, IsUpAs}

same_some : {X : Type 0} (x y : X) → Some x ≡ Some y → x ≡ y
same_some x y e = cc e

same_party : (n k : ℕ) → party.Node n ≡ party.Node k → n ≡ k
same_party n k e = cc e

-- it writes nothing, and leaves what is executed and the snapshot
pub record WritesNothing (start last : NodeValue) (out : OutboxValue) : Type 0 where
  pub entries : out.entries ≡ []
  pub sync : out.sync ≡ false
  pub rebase : out.rebase ≡ false
  pub reach : executed last.learner ≡ executed start.learner
  pub snapshot : last.acceptor.state.snapshot_position ≡ start.acceptor.state.snapshot_position

-- the bytes of a disk
long_as : (d : Disk) (xs ys : List ℕ) → d.synced ≡ xs → d.unsynced ≡ ys
    → length (contents d) ≡ length xs + length ys
long_as d xs ys synced unsynced =
    omega (arith, length-append d.synced d.unsynced, ap length synced, ap length unsynced)

same_store : (old new : StoreValue) (ks ls : List Stored) → IsSameStore old new → HoldsEntries old ks ls
    → HoldsEntries new ks ls
same_store old new ks ls same h = record {
  on = subst (λ (d : Disk). HoldsOn d new.other_disk ks ls) (sym same.live_disk)
      (subst (λ (d : Disk). HoldsOn old.live_disk d ks ls) (sym same.other_disk) h.on);
  generation_is = same.generation ∙ h.generation_is;
  format_is = same.format ∙ h.format_is;
  header_is = subst (λ (w : HeaderValue). HasHeader ks w) (sym same.header) h.header_is;
}

module _ (m : Meaning) (IsText : List ℕ → Type 0) where
  abbrev b : Behaviour ReplicaValue
  b = behaviour m IsText

  counted_due : (t : Trap) (sends : ℕ) (r : ReplicaValue)
      → IsDue (counting b t sends r).node (counting b t sends r).store → IsDue r.node r.store
  counted_due Off sends r d = d
  counted_due (Fail count) sends r d = d
  counted_due (Arm count bytes) sends r d = d

  module _ (old new : WorldState ReplicaValue) (n : ℕ) (i : Input) (holds : Holds m IsText old)
      (k : IsGiven b old new n i []) (g : GoesOn b old new k.replica k.next i []) where
    is_taken : IsTakenAs m IsText k.replica i g.replica g.notes g.batch
    is_taken = g.takes

    abbrev taken : IsTaken m IsText ⊤ k.replica i g.replica g.notes
        (λ (ls : List EnvelopeValue). ls ≡ is_taken.envelopes)
    taken = is_taken.taken

    was : IsUpAs old n k.replica
    was = was_there old new n k.sim_node k.next k.number k.replaces (Up k.replica) k.up

    kept : StoreKeeps (header_of old.genesis n) k.replica.store k.replica.node.acceptor.state
    kept = (shown m IsText old holds n k.replica was).1.keeps

    module _ (w : WritesNothing taken.mid taken.stepped taken.out)
        (alpha : g.replica.node.header.alpha ≡ k.replica.node.header.alpha) where
      put : (ks ls : List Stored) → HoldsEntries taken.between ks ls → HoldsEntries g.replica.store ks ls
      put ks ls h = subst (λ (es : List Stored). HoldsEntries g.replica.store ks es) (append-nil ls)
          (subst (λ (es : List Entry). HoldsEntries g.replica.store ks (ls ++ plain es)) w.entries
          (((taken.writes.puts w.rebase).1 ks ls h).0 w.sync))

      node_is : g.replica.node ≡ taken.stepped
      node_is = (taken.writes.puts w.rebase).0

      reach : executed g.replica.node.learner ≡ executed taken.mid.learner
      reach = ap (λ (node : NodeValue). executed node.learner) node_is ∙ w.reach

      snapshot : g.replica.node.acceptor.state.snapshot_position ≡ taken.mid.acceptor.state.snapshot_position
      snapshot = ap (λ (node : NodeValue). node.acceptor.state.snapshot_position) node_is ∙ w.snapshot

      after_rebase : IsDue k.replica.node k.replica.store → IsDue g.replica.node g.replica.store → ⊥
      after_rebase was_due due =
          let reb = taken.rebases.due was_due in
          let base : BaseValue = next_base k.replica.store (standing_of k.replica.node) in
          let h : HoldsEntries g.replica.store (Base base ∷ []) [] =
          put (Base base ∷ []) [] (reb.writes kept.entries (plain kept.loose) kept.holds) in
          let bytes : length (contents g.replica.store.live_disk)
          ≡ length (spelling_of_all (Base base ∷ [])) + length (spelling_of_all []) =
          long_as g.replica.store.live_disk (spelling_of_all (Base base ∷ [])) (spelling_of_all []) h.on.synced
          h.on.unsynced in
          let position : taken.mid.acceptor.state.snapshot_position ≡ executed k.replica.node.learner =
          ap (λ (node : NodeValue). node.acceptor.state.snapshot_position) reb.becomes in
          let as_much : executed taken.mid.learner ≡ executed k.replica.node.learner =
          ap (λ (node : NodeValue). executed node.learner) reb.becomes in
          elim due [
            | inl long ↦ omega (
              arith,
              long,
              bytes,
              length-append (spelling (Base base)) [],
              spelling_room (Base base) h.on.fit.0,
            )
            | inr many ↦ omega (arith, many, reach, snapshot, position, as_much)
          ]

      after_rest : (IsDue k.replica.node k.replica.store → ⊥) → IsDue g.replica.node g.replica.store → ⊥
      after_rest none due =
          let rests = taken.rebases.rests none in
          let h : HoldsEntries g.replica.store kept.entries (plain kept.loose) =
          put kept.entries (plain kept.loose)
          (same_store k.replica.store taken.between kept.entries (plain kept.loose) rests.1 kept.holds) in
          let bytes : length (contents g.replica.store.live_disk)
          ≡ length (spelling_of_all kept.entries) + length (spelling_of_all (plain kept.loose)) =
          long_as g.replica.store.live_disk (spelling_of_all kept.entries) (spelling_of_all (plain kept.loose))
          h.on.synced h.on.unsynced in
          let before : length (contents k.replica.store.live_disk)
          ≡ length (spelling_of_all kept.entries) + length (spelling_of_all (plain kept.loose)) =
          long_as k.replica.store.live_disk (spelling_of_all kept.entries) (spelling_of_all (plain kept.loose))
          kept.holds.on.synced kept.holds.on.unsynced in
          let position : taken.mid.acceptor.state.snapshot_position
          ≡ k.replica.node.acceptor.state.snapshot_position =
          ap (λ (node : NodeValue). node.acceptor.state.snapshot_position) rests.0 in
          let as_much : executed taken.mid.learner ≡ executed k.replica.node.learner =
          ap (λ (node : NodeValue). executed node.learner) rests.0 in
          none (elim due [
            | inl long ↦ inl (omega (arith, long, bytes, before))
            | inr many ↦ inr (omega (arith, many, reach, snapshot, position, as_much, ap snapshot_span alpha))
          ])

      not_due : IsDue g.replica.node g.replica.store → ⊥
      not_due = elim (due_or_not k.replica) [ inl d ↦ after_rebase d | inr d ↦ after_rest d ]

  module _ (old new : WorldState ReplicaValue) (n : ℕ) (i : Input) (before : Holds m IsText old)
      (after : Holds m IsText new) (k : IsGiven b old new n i []) (alive : new.ended ≡ None)
      (quiet : (start last : NodeValue) (out : OutboxValue) → IsFound k.replica start
      → Steps m IsText start i last out → WritesNothing start last out) where
    went_on : GoesOn b old new k.replica k.next i [] → IsRested new n
    went_on g q up due =
        let is : IsUpAs new n (after_sends b (length g.batch) g.replica) = is_there old new n k.sim_node k.next k.number
        k.replaces (Up (after_sends b (length g.batch) g.replica)) g.up in
        let t = taken old new n i before k g in
        let trap : Trap = (b.memory g.replica).meter.trap in
        let header : g.replica.node.header ≡ k.replica.node.header =
        ap (λ (x : NodeValue). x.header) (sym (counted m IsText trap (length g.batch) g.replica))
        ∙ has_header m IsText new after n (after_sends b (length g.batch) g.replica) is
        ∙ ap (λ (genesis : Genesis). header_of genesis n) g.adds.genesis
        ∙ sym (has_header m IsText old before n k.replica (was old new n i before k g)) in
        not_due old new n i before k g
        (quiet t.mid t.stepped t.out
        (record { due = λ d. (t.rebases.due d).becomes; rests = λ d. (t.rebases.rests d).0 }) t.steps)
        (ap (λ (h : HeaderValue). h.alpha) header)
        (counted_due (b.memory g.replica).meter.trap (length g.batch) g.replica
        (subst (λ (r : ReplicaValue). IsDue r.node r.store)
        (one_replica m IsText new after n q (after_sends b (length g.batch) g.replica) up is) due))

    given_rested : IsRested new n
    given_rested = elim k.comes_to [
      | inl g ↦ went_on g
      | inr (inl g) ↦ absurd (cc (sym alive ∙ g.ended))
      | inr (inr g) ↦ absurd (cc (sym alive ∙ g.ended))
    ]

  -- ---- a nudge

  pub nudge_rests : (old new : WorldState ReplicaValue) (n : ℕ) (r : ReplicaValue) → IsUpAs old n r
      → GoesWell m IsText old (event.Nudge n TicksWithheld) new
      → ((start last : NodeValue) (out : OutboxValue) → IsFound r start
      → Steps m IsText start (Nudge TicksWithheld) last out
      → WritesNothing start last out) → IsRested new n
  nudge_rests old new n r up goes quiet = by_given goes.done.1
    where
      by_given : IsGiven b old new n (Nudge TicksWithheld) [] → IsRested new n
      by_given k =
          let was_up : IsUpAs old n k.replica =
          was_there old new n k.sim_node k.next k.number k.replaces (Up k.replica) k.up in
          let same : k.replica ≡ r = one_replica m IsText old goes.before n k.replica r was_up up in
          given_rested old new n (Nudge TicksWithheld) goes.before goes.after k goes.alive
          (λ start last out found steps. quiet start last out
          (subst (λ (q : ReplicaValue). IsFound q start) same found) steps)

  -- ---- a datagram

  pub delivery_rests : (n : ℕ) (x : Content) (old new : WorldState ReplicaValue) (r : ReplicaValue) → IsUpAs old n r
      → Hears m IsText n x old new
      → ((start last : NodeValue) (out : OutboxValue) → IsFound r start → Takes m IsText start x last out
      → WritesNothing start last out) → IsRested new n
  delivery_rests n x old new r up h quiet = by_delivered h.goes.done.1
    where
      by_delivered : IsDelivered b old new h.place → IsRested new n
      by_delivered d = subst (λ (j : ℕ). IsRested new j) whose
          (given_rested old new d.node (Heard d.datagram.bytes) h.goes.before h.goes.after d.given h.goes.alive
          (λ start last out found steps. let found_r = subst (λ (q : ReplicaValue). IsFound q start) replica found in
          quiet start last out found_r (record {
            bytes = d.datagram.bytes;
            spells = subst (λ (c : ℕ). Spells (record { cluster = c; content = x }) d.datagram.bytes)
                (sym (ap (λ (w : HeaderValue). w.cluster)
                (found_header r start found_r ∙ has_header m IsText old h.goes.before n r up)))
                (subst (λ (e : Datagram). Spells (record { cluster = old.genesis.cluster; content = x }) e.bytes)
                (sym same) h.spelled);
            step = steps;
          })))
        where
          same : d.datagram ≡ h.datagram
          same = same_some d.datagram h.datagram (sym d.stands ∙ h.stands)

          whose : d.node ≡ n
          whose = same_party d.node n (sym d.bound ∙ ap (λ (e : Datagram). e.to) same ∙ h.bound)

          replica : d.given.replica ≡ r
          replica = one_replica m IsText old h.goes.before n d.given.replica r
              (subst (λ (j : ℕ). IsUpAs old j d.given.replica) whose
              (was_there old new d.node d.given.sim_node d.given.next d.given.number d.given.replaces
              (Up d.given.replica) d.given.up)) up
