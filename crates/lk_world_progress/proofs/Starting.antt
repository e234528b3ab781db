-- A node that starts with empty disks is a node of a new cluster, and ticks at which it is not due change nothing else.
use Rattle.std.proofs.Common.{◌≡◌, ◌∙◌, inl, inr, ℕ, ◌+◌, ◌++◌, false, min, List, [], ◌∷◌}
use Rattle.std.proofs.Common.{Contains, length, refl, ap, sym, subst, arith}
use Rattle.std.proofs.lemmas.List.Elements.{Contains-append_right}
use Rattle.lk_types.specs.Ballots.{zero_ballot}
use Rattle.lk_types.specs.declared.genesis.Genesis.{Genesis}
use Rattle.lk_disk.specs.declared.device.Side.{Side}
use Rattle.lk_disk.specs.declared.device.Side.TheVariants.{A, B}
use Rattle.lk_memory_disk.specs.Memory.{disk_of, empty}
use Rattle.lk_log.proofs.StoreLaws.{empty_image, found_begun}
use Rattle.lk_log.specs.Images.{seen}
use Rattle.lk_log.specs.Stores.{first_base}
use Rattle.lk_store_format.proofs.OneStanding.{one_standing}
use Rattle.lk_store_format.specs.Formats.{format}
use Rattle.lk_store_format.specs.Standings.{StandsFor}
use Rattle.lk_store_format.specs.Values.{HeaderValue, StandingValue}
use Rattle.lk_store_format.specs.declared.stored.Stored.{Stored}
use Rattle.lk_store_format.specs.declared.stored.Stored.TheVariants.{Base}
use Rattle.lk_members.specs.Effects.{Command}
use Rattle.lk_members.specs.Windows.{roster_after}
use Rattle.lk_state.specs.Meanings.{Meaning}
use Rattle.lk_state.specs.States.{WholeValue, whole_after}
use Rattle.lk_node_interface.specs.Ticks.{max_ticks, is_enough}
use Rattle.lk_node_interface.specs.declared.input.Input.TheVariants.{Tick}
use Rattle.lk_node.specs.BorneOut.{text}
use Rattle.lk_node.specs.Holdings.{Holding}
use Rattle.lk_node.specs.Keeping.{ReplicaHolds}
use Rattle.lk_node.specs.Leavings.{header_of}
use Rattle.lk_node.specs.NewBases.{with_snapshot}
use Rattle.lk_node.specs.NodeValue.{NodeValue}
use Rattle.lk_node.specs.Reminding.{Ticks}
use Rattle.lk_node.specs.Waiting.{BeginsWhereDue, index_of, ticked}
use Rattle.lk_progress.specs.Beginnings.{new_node}
use Rattle.lk_recovery.specs.Revivals.{RestartsAs, revived}
use Rattle.lk_replica.specs.ReplicaValue.{ReplicaValue}
use Rattle.lk_replica.specs.Revived.{Revives}
use Rattle.lk_sim.specs.Events.{ComesUp, IsAdded, IsRevived}
use Rattle.lk_sim.specs.WorldStates.{WorldState}
use Rattle.lk_sim.specs.declared.event.Event.TheVariants as event
use Rattle.lk_sim_nodes.specs.declared.sim_node.RunState.TheVariants.{Up}
use Rattle.lk_sim_nodes.specs.declared.sim_node.SimNode.{SimNode}
use Rattle.lk_world_progress.proofs.Rebasing.{begun_rests}
use Rattle.lk_world_progress.proofs.Stepping.{event_steps, found_is, one_replica, same_sim_node, shown}
use Rattle.lk_world_progress.specs.Beginning.{IsNewIn, StartsAreNew, TicksLeaveNew}
use Rattle.lk_world_progress.specs.Stepping.{GoesWell, IsFound, IsUpAs, TakesStep, behaviour}

-- ---- what an empty store stands for

none_stored : (s : Side) → seen (disk_of empty) s ≡ []
none_stored A = refl
none_stored B = refl

abbrev first_standing : List ℕ → StandingValue
first_standing zero = record { promised = zero_ballot; position = 0; snapshot = zero; votes = []; pairs = [] }

stands_first : (whose : HeaderValue) (zero : List ℕ)
    → StandsFor (Base (first_base whose zero) ∷ []) (first_standing zero)
stands_first whose zero = record {
  snapshot = (refl, refl);
  promised = refl;
  votes = λ i above. refl;
  votes_rise = refl;
  pairs = λ i above. refl;
  pairs_rise = refl;
}

nothing_done : (L : List Command) → length L ≡ 0 → L ≡ []
nothing_done [] e = refl
nothing_done (c ∷ L) e = absurd (omega (arith, e))

state_executed : (m : Meaning) (genesis : Genesis) (L : List Command)
    → (whole_after m genesis L).roster.executed ≡ length L
unfolding whole_after roster_after
state_executed m genesis L = refl

pub none_executed : (m : Meaning) (genesis : Genesis) → (whole_after m genesis []).roster.executed ≡ 0
none_executed m genesis = state_executed m genesis []

module _ (m : Meaning) (IsText : List ℕ → Type 0) where
  -- ---- a start

  module _ (old new : WorldState ReplicaValue) (n : ℕ) (goes : GoesWell m IsText old (event.Start n) new)
      (k : IsAdded (behaviour m IsText) old new n) (r : IsRevived (behaviour m IsText) old new k.sim_node empty)
      (v : Revives m IsText (disk_of empty) (header_of old.genesis k.sim_node.number) r.replica r.notes) where
    abbrev whose : HeaderValue
    whose = header_of old.genesis k.sim_node.number

    up : IsUpAs new n r.replica
    up = subst (λ (l : List (SimNode ReplicaValue)). Contains l (record {
      number = n;
      run_state =
          Up r.replica;
    })) (sym k.sim_nodes)
        (subst (λ (s : SimNode ReplicaValue). Contains (old.sim_nodes ++ k.sim_node ∷ []) s)
        (same_sim_node k.sim_node n (Up r.replica) k.number r.up)
        (Contains-append_right old.sim_nodes (k.sim_node ∷ []) k.sim_node (0, omega arith, refl)))

    module _ (s : RestartsAs m IsText (disk_of empty) whose v.node v.store r.notes) where
      abbrev zero : List ℕ
      zero = text m s.genesis []

      entries_are : s.opens.entries ≡ Base (first_base whose zero) ∷ []
      entries_are = found_begun (seen (disk_of empty)) whose zero s.opens.entries
          (empty_image (seen (disk_of empty)) none_stored) s.opens.found

      format_is : v.store.format ≡ 2
      format_is = s.opens.format_is ∙ ap (λ (es : List Stored). format es) entries_are

      standing_is : s.standing ≡ first_standing zero
      standing_is = one_standing s.opens.entries s.standing (first_standing zero) s.opens.stands
          (subst (λ (es : List Stored). StandsFor es (first_standing zero)) (sym entries_are) (stands_first whose zero))

      node_is : r.replica.node ≡ revived m whose (first_standing zero) s.restores.whole
      node_is = (v.renews.rests format_is).0 ∙ s.restores.node_is
          ∙ ap (λ (x : StandingValue). revived m whose x s.restores.whole) standing_is

      -- it has executed nothing
      executed_none : s.restores.whole.roster.executed ≡ 0
      executed_none = s.restores.may.unpacks.executed ∙ ap (λ (x : StandingValue). x.position) standing_is

      holding : Holding
      holding = (shown m IsText new goes.after n r.replica up).0

      held : ReplicaHolds m r.replica.node r.replica.store new.genesis n holding
      unfolding holding
      held = (shown m IsText new goes.after n r.replica up).1

      sums : s.restores.whole ≡ whole_after m new.genesis holding.paxos.done
      sums = sym (ap (λ (x : NodeValue). x.learner.whole) node_is) ∙ held.held.follows.sums

      done_none : holding.paxos.done ≡ []
      done_none = nothing_done holding.paxos.done (sym (state_executed m new.genesis holding.paxos.done)
          ∙ sym (ap (λ (x : WholeValue). x.roster.executed) sums) ∙ executed_none)

      whole_is : s.restores.whole ≡ whole_after m new.genesis []
      whole_is = sums ∙ ap (λ (L : List Command). whole_after m new.genesis L) done_none

      header_is : whose ≡ header_of new.genesis n
      header_is = λ i. header_of (sym r.adds.genesis i) (k.number i)

      is_new : IsNewIn m new n 0 r.replica
      is_new = (
        up,
        node_is
            ∙ (λ i. revived m (header_is i) (first_standing zero) (whole_is i)),
      )

  starts_new : StartsAreNew m IsText
  starts_new old new n goes = by_result k.comes
    where
      k : IsAdded (behaviour m IsText) old new n
      k = goes.done.1

      by_result : ComesUp (behaviour m IsText) old new k.sim_node empty → (r : ReplicaValue) × IsNewIn m new n 0 r
      by_result (inl r) = (r.replica, is_new old new n goes k r r.revives.0 r.revives.0.restarts)
      by_result (inr fault) = absurd (cc (sym goes.alive ∙ fault.ended))

  -- ---- a tick

  snapshot_of_new : (genesis : Genesis) (n ticks : ℕ)
      → with_snapshot (new_node m genesis n ticks) ≡ new_node m genesis n ticks
  snapshot_of_new genesis n ticks =
      let e : (whole_after m genesis []).roster.executed ≡ 0 = none_executed m genesis in
      λ i. record (new_node m genesis n ticks) {
        acceptor = record {
          alpha = genesis.alpha;
          state = record { promised = zero_ballot; votes = []; snapshot_position = e i };
        };
      }

  module _ (old new : WorldState ReplicaValue) (n ticks : ℕ) (r : ReplicaValue) (is_new_node : IsNewIn m old n ticks r)
      (early : is_enough (min (ticks + 1) max_ticks) (index_of r.node) ≡ false)
      (goes : GoesWell m IsText old (event.Tick n) new) (s : TakesStep m IsText old n Tick new) where
    abbrev was : NodeValue
    was = new_node m old.genesis n ticks

    found : IsFound r s.start
    found = subst (λ (q : ReplicaValue). IsFound q s.start)
        (one_replica m IsText old goes.before n s.before r s.was is_new_node.0) s.found

    start_is : s.start ≡ was
    start_is = elim (found_is r s.start found) [
      | inl e ↦ e ∙ is_new_node.1
      | inr e ↦
          e ∙ ap with_snapshot is_new_node.1 ∙ snapshot_of_new old.genesis n ticks
    ]

    steps : Ticks was s.last s.out
    steps = subst (λ (node : NodeValue). Ticks node s.last s.out) start_is s.steps

    begins : BeginsWhereDue (ticked was) s.last s.out
    begins = elim steps [ inl t ↦ absurd (cc t.1.1) | inr t ↦ t.1 ]

    not_yet : is_enough (ticked was).ticks (index_of was) ≡ false
    not_yet = subst (λ (node : NodeValue). is_enough (min (ticks + 1) max_ticks) (index_of node) ≡ false) is_new_node.1
        early

    last_is : s.last ≡ ticked was
    last_is = elim begins [ inl b ↦ absurd (cc (sym not_yet ∙ b.0)) | inr b ↦ b.1 ]

    after_is : s.after.node ≡ new_node m new.genesis n (min (ticks + 1) max_ticks)
    after_is = s.left.rests (begun_rests (ticked was) s.last s.out begins) ∙ last_is
        ∙ ap (λ (g : Genesis). new_node m g n (min (ticks + 1) max_ticks)) (sym s.genesis)

  pub ticks_new : TicksLeaveNew m IsText
  ticks_new old new n ticks r is early goes =
      let s : TakesStep m IsText old n Tick new =
      event_steps m IsText old new (event.Tick n) n Tick goes (refl, refl) in
      (s.after, (s.is, after_is old new n ticks r is early goes s))

  pub starts_are_new : StartsAreNew m IsText
  starts_are_new = starts_new
