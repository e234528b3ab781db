-- A node that takes ticks begins a ballot, whether or not its store is rebased meanwhile.
use Rattle.std.proofs.Common.{◌≡◌, ◌∙◌, ◌⊎◌, inl, inr, ℕ, zero, suc, ◌+◌, ◌≤◌, Bool, true, false, List, [], ◌∷◌}
use Rattle.std.proofs.Common.{Option, Some, None, refl, ap, sym, subst, arith}
use Rattle.lk_types.specs.declared.vote.Vote.{Vote}
use Rattle.lk_state.specs.Meanings.{Meaning}
use Rattle.lk_leader.specs.Proposing.{proposed}
use Rattle.lk_leader.specs.Terms.{TermValue, begun}
use Rattle.lk_learner.specs.Learners.{alpha}
use Rattle.lk_node_interface.specs.Outboxes.{OutboxValue}
use Rattle.lk_node_interface.specs.declared.input.Input.TheVariants.{Tick}
use Rattle.lk_node.specs.Beginning.{next_ballot}
use Rattle.lk_node.specs.Leading.{ProposesAll, having_proposed}
use Rattle.lk_node.specs.NewBases.{with_snapshot}
use Rattle.lk_node.specs.NodeValue.{NodeValue}
use Rattle.lk_node.specs.Reminding.{Ticks}
use Rattle.lk_node.specs.Waiting.{BeginsWhereDue, ticked}
use Rattle.lk_progress.specs.Ticking.{HasTerm, TakesTicks, TicksBeginABallot, no_tick, one_more}
use Rattle.lk_rebases.proofs.Rebases.{fits_snapshot, idle_begins}
use Rattle.lk_replica.specs.ReplicaValue.{ReplicaValue}
use Rattle.lk_sim.specs.WorldStates.{WorldState}
use Rattle.lk_sim.specs.declared.event.Event.TheVariants as event
use Rattle.lk_world_progress.proofs.Balloting.{found_has}
use Rattle.lk_world_progress.proofs.Shadowing.{ShadowTicks, Shadows, shadow_ticks, shadows_found, shadows_itself}
use Rattle.lk_world_progress.proofs.Stepping.{event_steps, one_replica, shown}
use Rattle.lk_world_progress.specs.Stepping.{GoesWell, Holds, IsFound, IsLeft, IsUpAs, TakesStep}
use Rattle.lk_world_progress.specs.Waiting.{TicksInTurn, WorldTicksBegin}

-- whatever a snapshot keeps holds of the node as the event leaves it
pub left_has : (out : OutboxValue) (node : NodeValue) (r : ReplicaValue) (P : NodeValue → Type 0)
    → (P node → P (with_snapshot node)) → IsLeft out node r → P node → P r.node
left_has out node r P keeps left p = by_test out.rebase refl
  where
    by_test : (t : Bool) → out.rebase ≡ t → P r.node
    by_test true is = subst P (sym (left.rebases is)) (keeps p)
    by_test false is = subst P (sym (left.rests is)) p

snapshot_shadows : (shadow node : NodeValue) → Shadows shadow node → Shadows shadow (with_snapshot node)
snapshot_shadows shadow node s = record { past = s.past; fits = fits_snapshot s.past node s.fits; is = s.is }

-- ---- a term

proposed_has : (xs : List Vote) (old new : NodeValue) (before out : OutboxValue) → ProposesAll xs old new before out
    → (t : TermValue) → old.leader.term ≡ Some t → HasTerm new
proposed_has [] old new before out all t is =
    (t.ballot, (t, ap (λ (node : NodeValue). node.leader.term) all.1 ∙ is, refl))
proposed_has (x ∷ xs) old new before out all t is = proposed_has xs (having_proposed old x all.0) new _ out all.1
    (proposed old.learner.whole.roster x.position x.command all.0.term) refl

-- a tick of a node with a term leaves it one
term_stays : (old new : NodeValue) (out : OutboxValue) → HasTerm old → Ticks old new out → HasTerm new
term_stays old new out has (inl reminds) =
    proposed_has reminds.2.proposes.0 old new reminds.2.offered reminds.2.proposed reminds.2.proposes.1 reminds.1.0
    reminds.1.1
term_stays old new out has (inr idle) = absurd (cc (sym idle.0 ∙ has.1.1))

-- a tick of a node without one begins it, or leaves the node waiting
begun_or_idle : (old new : NodeValue) (out : OutboxValue) → old.leader.term ≡ None → BeginsWhereDue (ticked old) new out
    → HasTerm new ⊎ (new.leader.term ≡ None)
begun_or_idle old new out idle (inl begins) = inl (
  next_ballot (ticked old),
  (begun (next_ballot (ticked old)), ap (λ (node : NodeValue). node.leader.term) begins.1.becomes, refl),
)
begun_or_idle old new out idle (inr rests) = inr (ap (λ (node : NodeValue). node.leader.term) rests.1 ∙ idle)

module _ (m : Meaning) (IsText : List ℕ → Type 0) where
  -- the node has a term, or it waits, and has a shadow that took these ticks
  abbrev HasWaited : NodeValue → ℕ → NodeValue → Type 0
  HasWaited first k node = HasTerm node
      ⊎ ((shadow : NodeValue) × Shadows shadow node × TakesTicks first k shadow × (node.leader.term ≡ None))

  record Waited (n : ℕ) (first : NodeValue) (k : ℕ) (w : WorldState ReplicaValue) : Type 0 where
    holds : Holds m IsText w
    after : ReplicaValue
    is : IsUpAs w n after
    waited : HasWaited first k after.node

  module _ (n : ℕ) (first : NodeValue) (k : ℕ) (old new : WorldState ReplicaValue) (w : Waited n first k old)
      (goes : GoesWell m IsText old (event.Tick n) new) where
    s : TakesStep m IsText old n Tick new
    s = event_steps m IsText old new (event.Tick n) n Tick goes (refl, refl)

    found : IsFound w.after s.start
    found = subst (λ (q : ReplicaValue). IsFound q s.start)
        (one_replica m IsText old w.holds n s.before w.after s.was w.is) s.found

    waits_on : HasWaited first k w.after.node → HasWaited first (k + 1) s.after.node
    waits_on (inl has) = inl (left_has s.out s.last s.after HasTerm (λ h. h) s.left
        (term_stays s.start s.last s.out (found_has w.after s.start found HasTerm (λ h. h) has) s.steps))
    waits_on (inr idle) = by_begun (begun_or_idle s.start s.last s.out start_idle
        (idle_begins s.start s.last s.out start_idle s.steps))
      where
        start_idle : s.start.leader.term ≡ None
        start_idle = found_has w.after s.start found (λ node. node.leader.term ≡ None) (λ e. e) idle.3

        behind : Shadows idle.0 s.start
        behind = shadows_found idle.0 w.after s.start found idle.1

        shadow : ShadowTicks idle.0 s.last s.out
        shadow = shadow_ticks idle.0 s.start s.last s.out behind
            (ap (λ (node : NodeValue). node.leader.term) behind.is ∙ start_idle) s.steps

        by_begun : HasTerm s.last ⊎ (s.last.leader.term ≡ None) → HasWaited first (k + 1) s.after.node
        by_begun (inl has) = inl (left_has s.out s.last s.after HasTerm (λ h. h) s.left has)
        by_begun (inr still) = inr (
          shadow.shadow,
          left_has s.out s.last s.after (λ node. Shadows shadow.shadow node)
              (snapshot_shadows shadow.shadow s.last) s.left shadow.shadows,
          one_more s.out idle.2 shadow.ticks,
          left_has s.out s.last s.after (λ node. node.leader.term ≡ None) (λ e. e) s.left still,
        )

    one_tick : Waited n first (k + 1) new
    one_tick = record { holds = goes.after; after = s.after; is = s.is; waited = waits_on w.waited }

  all_ticks : (n : ℕ) (k : ℕ) (old new : WorldState ReplicaValue) (r : ReplicaValue) → Holds m IsText old
      → IsUpAs old n r
      → Waited n r.node 0 old → TicksInTurn m IsText n k old new → Waited n r.node k new
  all_ticks n zero old new r holds up w same =
      subst (λ (x : WorldState ReplicaValue). Waited n r.node 0 x) (sym same) w
  all_ticks n (suc k) old new r holds up w d =
      subst (λ (j : ℕ). Waited n r.node j new) (omega arith)
      (one_tick n r.node k d.0 new (all_ticks n k old d.0 r holds up w d.1) d.2)

  pub world_ticks_begin : TicksBeginABallot → WorldTicksBegin m IsText
  world_ticks_begin law old new n index k r holds up near may le d = (last.after, last.is, has_term last.waited)
    where
      some : 1 ≤ alpha r.node.learner
      some = (let told = (shown m IsText old holds n r up).1.told.tells in omega (arith, told.some, told.window))

      last : Waited n r.node k new
      last = all_ticks n k old new r holds up (record {
        holds = holds;
        after = r;
        is = up;
        waited = by_term r.node.leader.term refl;
      }) d
        where
          by_term : (o : Option TermValue) → r.node.leader.term ≡ o → HasWaited r.node 0 r.node
          by_term (Some t) is = inl (t.ballot, (t, is, refl))
          by_term None is = inr (r.node, shadows_itself r.node some near.snapshot, no_tick, is)

      has_term : HasWaited r.node k last.after.node → HasTerm last.after.node
      has_term (inl has) = has
      has_term (inr idle) =
          let has : HasTerm idle.0 = law r.node idle.0 index k may idle.2 le in
          absurd (cc (sym (ap (λ (node : NodeValue). node.leader.term) idle.1.is ∙ idle.3) ∙ has.1.1))
