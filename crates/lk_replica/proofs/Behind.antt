-- What a call leaves that steps, rebases in place of putting what the step writes, and then sends.
use Rattle.std.proofs.Common.{◌≡◌, ℕ, true, List, [], ◌∷◌, take, Contains, sym, ◌∙◌, subst}
use Rattle.lk_messages.specs.Grammar.{Spells}
use Rattle.lk_messages.specs.declared.message.NodeMessage.{NodeMessage}
use Rattle.lk_messages.specs.declared.message.NodeMessage.TheVariants as kinds
use Rattle.lk_store_format.specs.Values.{StandingValue}
use Rattle.lk_store_format.specs.declared.stored.Stored.TheVariants.{Base}
use Rattle.lk_log.specs.StoreValue.{StoreValue, disks}
use Rattle.lk_log.specs.Stores.{HoldsEntries, FitsBase, next_base}
use Rattle.lk_log.proofs.StoreLaws.{one_standing}
use Rattle.lk_state.specs.Meanings.{Meaning}
use Rattle.lk_agreement_laws.specs.Acceptors.{Covers, CoversSent}
use Rattle.lk_agreement_laws.specs.Changes.{holding_acceptor}
use Rattle.lk_agreement_laws.specs.Datagrams.{said_by}
use Rattle.lk_agreement_laws.specs.Nodes.{PaxosState, MaySend}
use Rattle.lk_agreement_laws.proofs.Histories.{still_stems, covers_both}
use Rattle.lk_acceptor.specs.States.{without_votes_to}
use Rattle.lk_acceptor.proofs.Acceptors.{takes_snapshot}
use Rattle.lk_learner.specs.Learners.{executed}
use Rattle.lk_node_interface.specs.Envelopes.{EnvelopeValue, batch_of}
use Rattle.lk_node_interface.specs.Outboxes.{OutboxValue, nothing}
use Rattle.lk_node_interface.specs.declared.input.Input.{Input}
use Rattle.lk_node_interface.specs.declared.note.Note.{Note}
use Rattle.lk_node.specs.Calls.{InputFits, MayGo, NodeFits, LeavesFit}
use Rattle.lk_node.specs.Entries.{EntriesFit}
use Rattle.lk_node.specs.Histories.{History, Genesis, Datagram, later, IsLawful}
use Rattle.lk_node.specs.Holdings.{Holding, HoldingFits}
use Rattle.lk_node.specs.Keeping.{StoreKeeps, ReplicaHolds, HoldsBeforeRebase}
use Rattle.lk_node.specs.Leavings.{header_of, acceptor_of, paxos_of}
use Rattle.lk_node.specs.NodeValue.{NodeValue}
use Rattle.lk_node.specs.NewBases.{standing_of, with_snapshot}
use Rattle.lk_node.specs.Reaching.{HoldsNear}
use Rattle.lk_node.specs.BorneOut.{IsOfNode, IsBorneOut}
use Rattle.lk_node.specs.SafeSteps.{IsNeitherPromiseNorVote, IsCoveredEnvelope, IsSafeStep, ActsSafely}
use Rattle.lk_replica.specs.Posts.{AreOf}
use Rattle.lk_recovery.specs.Remembering.{ReplicaRemembers}
use Rattle.lk_replica.proofs.Going.{said_covered, said_neither, batch_covered, bound, continues}
use Rattle.lk_recovery.proofs.Recoveries.{fit_disks, snapshot_covers, base_stands, here, rebase_stands, base_fits}
use Rattle.lk_recovery.proofs.Recoveries.{here_fits}
use Rattle.lk_replica.proofs.Thinning.{batch_among}

-- all but promises and votes may still be sent
neither_may : (h : History) (w : PaxosState) (i : ℕ) (x : NodeMessage) → IsNeitherPromiseNorVote x
    → MaySend h.genesis h.sent w x
    → MaySend h.genesis h.sent (holding_acceptor w (without_votes_to w.acceptor i)) x
neither_may h w i (kinds.Prepare b first) neither may = may
neither_may h w i (kinds.Promise p) neither may = absurd neither
neither_may h w i (kinds.Accept v) neither may = may
neither_may h w i (kinds.Accepted v) neither may = absurd neither
neither_may h w i (kinds.Nack k) neither may = may
neither_may h w i (kinds.Decided d) neither may = may
neither_may h w i (kinds.Want k) neither may = may
neither_may h w i (kinds.Part p) neither may = may
neither_may h w i (kinds.Answer k) neither may = may
neither_may h w i (kinds.Elsewhere k) neither may = may
neither_may h w i (kinds.Passed p) neither may = may
neither_may h w i (kinds.Lead b k) neither may = may

-- The node stands on the store as it was before the step, since the step has left its acceptor and what is unsynced
-- known.
module _ (m : Meaning) (h : History) (n : ℕ) (node : NodeValue) (old new : StoreValue) (x : Holding)
    (shown : HoldsBeforeRebase m node old h.genesis n x)
    (may : FitsBase (standing_of node)) (close : HoldsNear node) (lawful : IsLawful m h) (fits : HoldingFits m h n x)
    (out : OutboxValue) (tells : (l : EnvelopeValue) → Contains out.envelopes l
    → IsCoveredEnvelope node.header node.acceptor.state out.rebase l)
    (goes : (d : Datagram) → Contains (batch_of n out.envelopes) d → MayGo m h n x.paxos d)
    (neither : (d : Datagram) (c : Contains (batch_of n out.envelopes) d) → IsNeitherPromiseNorVote (goes d c).message)
    (noted : (k : Note) → Contains out.notes k → IsOfNode k × IsBorneOut m h k)
    (holds : HoldsEntries new (Base (next_base old (standing_of node)) ∷ []) [])
    (sent : List EnvelopeValue) (among : AreOf sent out.envelopes) where
  base : EntriesFit m h n (Base (next_base old (standing_of node)) ∷ [])
  base = base_fits m h n node old new x shown may close lawful fits

  same : standing_of node ≡ base.standing
  same = one_standing (Base (next_base old (standing_of node)) ∷ []) (standing_of node) base.standing
      (base_stands m h.genesis n node old new shown.keeps may close.0.snapshot) base.stands

  sent_covered : (k : ℕ) → CoversSent h.genesis (take k (batch_of n sent)) n (acceptor_of (standing_of node))
  sent_covered k y c =
      snapshot_covers node.acceptor.state (without_votes_to node.acceptor.state (executed node.learner))
      (executed node.learner) (takes_snapshot node.acceptor.state (executed node.learner) close.0.snapshot) y
      (batch_covered h.genesis n node out.rebase sent shown.whose (λ l d. tells l (among l d)) k y c)

  sent_fit : (k : ℕ) → EntriesFit m (later h (take k (batch_of n sent))) n
      (Base (next_base old (standing_of node)) ∷ [])
  sent_fit k = record {
    standing = base.standing;
    header = base.header;
    stands = base.stands;
    under = base.under;
    position = base.position;
    snapshot = base.snapshot;
    covers = covers_both h.genesis h.sent (take k (batch_of n sent)) n (acceptor_of base.standing) base.covers
        (subst (λ (s : StandingValue). CoversSent h.genesis (take k (batch_of n sent)) n (acceptor_of s)) same
        (sent_covered k));
    stems = still_stems h.genesis h.sent (take k (batch_of n sent)) (paxos_of base.standing base.under) base.stems;
    near = base.near;
  }

  pub rebased_goes : LeavesFit m h n (ReplicaHolds m (with_snapshot node) new h.genesis n) (disks new) out.notes
      (batch_of n sent)
  rebased_goes = record {
    holding = here m h.genesis n node old new x shown may close;
    shown = rebase_stands m h.genesis n node old new x shown may close holds;
    fits = here_fits m h n node old new x shown may close lawful fits;
    may = λ d c.
        let listed = batch_among n sent out.envelopes among d c in
        let k = goes d listed in
        record {
          message = k.message;
          from = k.from;
          spelled = k.spelled;
          may = neither_may h x.paxos (executed node.learner) k.message (neither d listed) k.may;
          borne_out = k.borne_out;
        };
    noted = noted;
    left = λ k. fit_disks m (later h (take k (batch_of n sent))) n new (Base (next_base old (standing_of node)) ∷ [])
        (standing_of node) [] holds
        (base_stands m h.genesis n node old new shown.keeps may close.0.snapshot) tt tt (sent_fit k);
  }

-- ---- the call

-- The step has left the acceptor, and so the store keeps it as before.
module _ (m : Meaning) (Heard : History → Type 0) (genesis : Genesis) (n : ℕ) (node stepped : NodeValue)
    (old : StoreValue) (whose : node.header ≡ header_of genesis n)
    (k : StoreKeeps (header_of genesis n) old node.acceptor.state) (out : OutboxValue)
    (g : ActsSafely m Heard node stepped nothing out) (is : out.rebase ≡ true) where
  abbrev pub still_keeps : StoreKeeps (header_of genesis n) old stepped.acceptor.state
  still_keeps = record {
    entries = k.entries;
    loose = k.loose;
    holds = k.holds;
    decided = k.decided;
    header = k.header;
    standing = k.standing;
    stands = k.stands;
    remembers = k.remembers ∙ sym ((bound m Heard node stepped out g).still is);
  }

  -- and it remembers
  pub still_remembers : ReplicaRemembers stepped old genesis n
  still_remembers = record { whose = (bound m Heard node stepped out g).header ∙ whose; keeps = still_keeps }

  -- whatever is sent, the acceptor covers
  pub sent_is_covered : (x : NodeMessage) (d : Datagram) → Contains (batch_of n out.envelopes) d
      → Spells (said_by genesis n x) d.bytes → Covers stepped.acceptor.state x
  sent_is_covered x d c said =
      let b = bound m Heard node stepped out g in
      said_covered genesis n stepped out.rebase out.envelopes (b.header ∙ whose) b.tells x d c n said

module _ (m : Meaning) (h : History) (n : ℕ) (node stepped : NodeValue) (old : StoreValue)
    (i : Input) (out : OutboxValue)
    (f : NodeFits m h n (ReplicaHolds m node old h.genesis n) (disks old)) (heard : InputFits h i)
    (g : ActsSafely m (λ k. InputFits k i) node stepped nothing out) (is : out.rebase ≡ true) where
  abbrev served : IsSafeStep m h n f.shown.keeps.loose stepped out
  served = continues m h n node stepped old old i out f heard g

  -- it fits on the store as it was
  abbrev pub stepped_fits : NodeFits m h n (HoldsBeforeRebase m stepped old h.genesis n) (disks old)
  stepped_fits = record {
    lawful = f.lawful;
    holding = served.holding;
    shown = record {
      whose = served.whose;
      keeps = still_keeps m (λ k. InputFits k i) h.genesis n node stepped old f.shown.whose f.shown.keeps out g is;
      known = served.known;
      held = served.held;
      some = f.shown.told.tells.some;
      near = f.shown.told.near;
    };
    fits = served.fits;
    left = f.left;
  }

  -- where its Base was written, these envelopes of it are sent
  pub installed_goes : (new : StoreValue) → FitsBase (standing_of stepped) → HoldsNear stepped
      → HoldsEntries new (Base (next_base old (standing_of stepped)) ∷ []) []
      → (sent : List EnvelopeValue) → AreOf sent out.envelopes
      → LeavesFit m h n (ReplicaHolds m (with_snapshot stepped) new h.genesis n) (disks new) out.notes (batch_of n sent)
  installed_goes new may close holds sent among =
      let b = bound m (λ k. InputFits k i) node stepped out g in
      rebased_goes m h n stepped old new served.holding stepped_fits.shown may close f.lawful
      served.fits out b.tells served.may
      (λ d c. let k = served.may d c in
      said_neither h.genesis n stepped out.rebase out.envelopes served.whose b.tells is k.message d c n k.spelled)
      served.noted holds sent among
