-- A candidate whose Prepare each node of its majority has taken, itself among them, and that takes a rejection.
use Rattle.std.proofs.Common.{◌≡◌, ◌∙◌, ◌⊎◌, inl, inr, ℕ, ◌+◌, ◌<◌, false, List, [], ◌∷◌}
use Rattle.std.proofs.Common.{Some, None, Contains, refl, ap, sym, subst, arith}
use Rattle.lk_types.specs.BallotValue.{BallotValue}
use Rattle.lk_types.specs.Ballots.{IsBelow}
use Rattle.lk_messages.specs.declared.message.Content.{Content}
use Rattle.lk_messages.specs.declared.message.Content.TheVariants as content
use Rattle.lk_messages.specs.declared.message.Nack.{Nack}
use Rattle.lk_messages.specs.declared.message.NodeMessage.TheVariants as kinds
use Rattle.lk_agreement_laws.proofs.Histories.{at_most_below, below_at_most, below_self, contains_more}
use Rattle.lk_state.specs.Meanings.{Meaning}
use Rattle.lk_state.specs.States.{WholeValue}
use Rattle.lk_acceptor.specs.AcceptorValue.{AcceptorValue}
use Rattle.lk_leader.specs.Terms.{begun}
use Rattle.lk_leader.specs.Values.{is_changing_at}
use Rattle.lk_learner.specs.Learners.{executed}
use Rattle.lk_node_interface.specs.declared.input.Input.TheVariants.{Tick}
use Rattle.lk_node.specs.Beginning.{beginning, greatest_round, next_ballot}
use Rattle.lk_node.specs.CatchingUp.{refusal}
use Rattle.lk_node.specs.Nearness.{AreNear}
use Rattle.lk_node.specs.NodeValue.{NodeValue}
use Rattle.lk_node.specs.Responding.{with_acceptor}
use Rattle.lk_node.specs.Waiting.{ticked}
use Rattle.lk_node.specs.Yielding.{seeing}
use Rattle.lk_progress.proofs.Electing.{due_asks, rejected_above}
use Rattle.lk_progress.specs.Electing.{AsksWindow, IsDue}
use Rattle.lk_progress.specs.Exchanges.{prepare_by}
use Rattle.lk_rebases.proofs.Rebases.{HasSame, Handled, handled, idle_begins, proposed_same}
use Rattle.lk_replica.specs.ReplicaValue.{ReplicaValue}
use Rattle.lk_sim.specs.WorldStates.{WorldState}
use Rattle.lk_sim.specs.declared.event.Event.TheVariants as event
use Rattle.lk_sim_nodes.specs.declared.sim_node.RunState.{RunState}
use Rattle.lk_sim_nodes.specs.declared.sim_node.RunState.TheVariants.{Up}
use Rattle.lk_world_progress.proofs.Balloting.{found_has, found_tells}
use Rattle.lk_world_progress.proofs.Delivering.{EachHeard, HeardIt, each_heard, heard_from, heard_it}
use Rattle.lk_world_progress.proofs.Overtaking.{nack_raises, promised_is, promised_round, responds, round_above}
use Rattle.lk_world_progress.proofs.Rebasing.{begun_rests}
use Rattle.lk_world_progress.proofs.Stepping.{event_steps, one_replica}
use Rattle.lk_world_progress.specs.Delivering.{Hears, HearsEach}
use Rattle.lk_world_progress.specs.Overtaking.{GoesAboveIn, IsRival}
use Rattle.lk_world_progress.specs.Stepping.{GoesWell, IsFound, IsUpAs, Lives, TakesStep}
use Rattle.lk_world_leftovers.proofs.Lasting.{Lasts, lasts_found, lasts_promise, lasts_trans, may_vote, nack_lasts}
use Rattle.lk_world_leftovers.proofs.Lasting.{prepare_lasts, still_contends}
use Rattle.lk_world_leftovers.specs.Persisting.{Contends, IsNoRival, MayVote}
use Rattle.lk_healing.proofs.Prepared.{HasBegun, below_test, begun_found, both_below, not_above, replied_rounds}
use Rattle.lk_healing.proofs.Prepared.{seen_round, seen_within, still_begun, within}

-- ---- the ballot

module _ (m : Meaning) (IsText : List ℕ → Type 0) (x : ℕ) (c : ReplicaValue) (others : List ℕ)
    (due now : WorldState ReplicaValue) (e top last : ℕ) (k : Contends m IsText due x e top others last)
    (up : IsUpAs due x c) (is_due : IsDue c.node)
    (unchanged : is_changing_at c.node.learner.whole.roster (executed c.node.learner + 1) ≡ false)
    (ticks : GoesWell m IsText due (event.Tick x) now) where
  abbrev pub b : BallotValue
  b = next_ballot c.node

  abbrev prepare : Content
  prepare = content.Node x (prepare_by c.node)

  pub s : TakesStep m IsText due x Tick now
  s = event_steps m IsText due now (event.Tick x) x Tick ticks (refl, refl)

  found : IsFound c s.start
  found = subst (λ (q : ReplicaValue). IsFound q s.start) (one_replica m IsText due k.holds x s.before c s.was up)
      s.found

  start_due : IsDue s.start
  start_due = found_has c s.start found IsDue
      (λ d. record { idle = d.idle; waited = d.waited; round = d.round; position = d.position }) is_due

  asks : AsksWindow s.start s.last s.out
  asks = due_asks s.start s.last s.out start_due s.steps

  began_is : s.after.node ≡ beginning (next_ballot s.start) (ticked s.start)
  began_is = s.left.rests (begun_rests (ticked s.start) s.last s.out
      (idle_begins s.start s.last s.out start_due.idle s.steps)) ∙ asks.becomes

  ballot_is : next_ballot s.start ≡ b
  ballot_is = found_tells c s.start found (λ node. next_ballot s.start ≡ next_ballot node) (λ q. q) refl

  same_candidate : k.candidate ≡ c
  same_candidate = one_replica m IsText due k.holds x k.candidate c k.up up

  began_lasts : Lasts c.node s.after.node
  began_lasts = lasts_trans c.node s.start s.after.node (lasts_found c s.start found)
      (lasts_promise s.start s.after.node (next_ballot s.start) (ap (λ (n : NodeValue). n.learner) began_is)
      (ap (λ (n : NodeValue). n.acceptor) began_is))

  began : HasBegun b c.node.rounds s.after.node
  began = record {
    term = ap (λ (n : NodeValue). n.leader.term) began_is ∙ ap (λ (y : BallotValue). Some (begun y)) ballot_is;
    waiting = ap (λ (n : NodeValue). n.leader.waiting) began_is
        ∙ found_has c s.start found (λ node. node.leader.waiting ≡ []) (λ q. q)
        (subst (λ (q : ReplicaValue). q.node.leader.waiting ≡ []) same_candidate k.waiting);
    promised = ap (λ (n : NodeValue). n.acceptor.state.promised) began_is ∙ ballot_is;
    rounds = ap (λ (n : NodeValue). n.rounds) began_is
        ∙ found_tells c s.start found (λ node. s.start.rounds ≡ node.rounds) (λ q. q) refl;
    unchanged = subst (λ (w : WholeValue). is_changing_at w.roster (w.roster.executed + 1) ≡ false)
        (sym began_lasts.whole) unchanged;
  }

  -- what it is when it has begun
  abbrev pub begun_replica : ReplicaValue
  begun_replica = s.after

  pub begun_up : IsUpAs now x begun_replica
  begun_up = s.is

  pub begun_near : AreNear begun_replica.node.acceptor begun_replica.node.learner
  begun_near = began_lasts.near (subst (λ (q : ReplicaValue). AreNear q.node.acceptor q.node.learner) same_candidate
      k.near)

  pub begun_reach : executed begun_replica.node.learner ≡ executed c.node.learner
  begun_reach = ap (λ (w : WholeValue). w.roster.executed) began_lasts.whole

  pub begun_promised : begun_replica.node.acceptor.state.promised ≡ next_ballot c.node
  begun_promised = began.promised

  pub others_stay : (n : ℕ) (run_state : RunState ReplicaValue) → (n ≡ x → ⊥) → Lives due n run_state
      → Lives now n run_state
  others_stay n run_state ne there = s.others n run_state ne there

  module _ (polled : WorldState ReplicaValue)
      (polls : HearsEach m IsText (content.Node x (prepare_by c.node)) (x ∷ others) now polled) where
    heard : EachHeard m IsText prepare (x ∷ others) now polled
    heard = each_heard m IsText prepare (x ∷ others) now polled ticks.after tt k.distinct polls

    pub own : HeardIt m IsText x (content.Node x (prepare_by c.node)) begun_replica polled
    own = heard.heard x s.after (0, omega arith, refl) s.is

    own_begun : HasBegun b c.node.rounds own.after.node
    own_begun = still_begun m IsText b c.node.rounds x (executed c.node.learner + 1) own.start own.after.node own.out
        (begun_found b c.node.rounds s.after own.start own.found began) own.takes

    own_lasts : Lasts c.node own.after.node
    own_lasts = lasts_trans c.node own.start own.after.node
        (lasts_trans c.node s.after.node own.start began_lasts (lasts_found s.after own.start own.found))
        (prepare_lasts m IsText own.start own.after.node x b (executed c.node.learner + 1) own.out own.takes)

    -- another node
    module _ (n : ℕ) (o : Contains others n) where
      apart : n ≡ x → ⊥
      apart is = k.distinct.0 (subst (λ (j : ℕ). Contains others j) is o)

      abbrev voter : MayVote due top last n
      voter = k.others_may n o

      pub took : HeardIt m IsText n (content.Node x (prepare_by c.node)) (k.others_may n o).replica polled
      took = heard.heard n voter.replica (contains_more x others n o) (s.others n (Up voter.replica) apart voter.up)

      pub took_lasts : Lasts (k.others_may n o).replica.node took.after.node
      took_lasts = lasts_trans voter.replica.node took.start took.after.node
          (lasts_found voter.replica took.start took.found)
          (prepare_lasts m IsText took.start took.after.node x b (executed c.node.learner + 1) took.out took.takes)

      took_promised : (took.after.node.acceptor.state.promised ≡ b)
          ⊎ (took.after.node.acceptor.state.promised ≡ voter.replica.node.acceptor.state.promised)
      took_promised = elim (promised_is m IsText took.start took.after.node x b (executed c.node.learner + 1) took.out
          (handled m IsText took.start prepare took.after.node took.out took.takes)) [
            | inl e ↦ inl e
            | inr e ↦ inr (e ∙ found_tells voter.replica took.start took.found
                (λ node. took.start.acceptor.state.promised ≡ node.acceptor.state.promised) (λ q. q) refl)
          ]

      took_rounds : took.after.node.rounds ≡ voter.replica.node.rounds
      took_rounds =
          let h : Handled m IsText took.start prepare took.after.node took.out =
          handled m IsText took.start prepare took.after.node took.out took.takes in
          let r = responds m IsText took.start took.after.node x b (executed c.node.learner + 1) took.out h in
          (proposed_same h.proposes.0 h.mid took.after.node h.first took.out h.proposes.1).rounds
          ∙ ap (λ (n : NodeValue). n.rounds) r.becomes
          ∙ replied_rounds r.response.reply (with_acceptor took.start r.acceptor)
          ∙ found_tells voter.replica took.start took.found (λ node. took.start.rounds ≡ node.rounds) (λ q. q) refl

    -- ---- the rejection

    module _ (new : WorldState ReplicaValue) (rival : ℕ) (is_rival : IsRival due b rival)
        (tells : Hears m IsText x (content.Node rival (kinds.Nack (refusal b is_rival.replica.node))) polled new) where
      abbrev nack : Nack
      nack = refusal b is_rival.replica.node

      abbrev rejects : Content
      rejects = content.Node rival (kinds.Nack (refusal b is_rival.replica.node))

      pub told : HeardIt m IsText x (content.Node rival (kinds.Nack (refusal b is_rival.replica.node))) own.after new
      told = heard_it m IsText x rejects polled new own.after tt own.is tells

      told_lasts : Lasts told.start told.after.node
          × (told.start.leader.waiting ≡ [] → told.after.node.leader.waiting ≡ [])
      told_lasts = nack_lasts m IsText told.start told.after.node rival nack told.out told.takes

      told_begun : HasBegun b c.node.rounds told.start
      told_begun = begun_found b c.node.rounds own.after told.start told.found own_begun

      raised : GoesAboveIn x own.after nack new
      raised = nack_raises m IsText (rejected_above m IsText) polled new x own.after rival nack own.is tells

      raised_same : raised.after ≡ told.after
      raised_same = one_replica m IsText new tells.goes.after x raised.after told.after raised.is told.is

      idle_again : told.after.node.leader.term ≡ None
      idle_again = subst (λ (q : ReplicaValue). q.node.leader.term ≡ None) raised_same
          (raised.ends (begun b) own_begun.term (below_test b nack.promised is_rival.above))

      pub then_up : (n : ℕ) (o : Contains others n) → IsUpAs new n (took n o).after
      then_up n o = (heard_from m IsText x rejects polled new tells).others n (Up (took n o).after) (apart n o)
          (took n o).is

      pub then_lasts : (n : ℕ) (o : Contains others n) → Lasts (k.others_may n o).replica.node (took n o).after.node
      then_lasts n o = took_lasts n o

      pub rejected_contends : Contends m IsText new x e top others last
      rejected_contends = still_contends m IsText due new x e top others last k told.after tells.goes.after told.is
          (lasts_trans k.candidate.node own.after.node told.after.node
          (subst (λ (q : ReplicaValue). Lasts q.node own.after.node) (sym same_candidate) own_lasts)
          (lasts_trans own.after.node told.start told.after.node (lasts_found own.after told.start told.found)
          told_lasts.0)) idle_again (told_lasts.1 told_begun.waiting)
          (λ n o. may_vote due new top last n (k.others_may n o) (took n o).after (then_up n o) (then_lasts n o))

      -- ---- rivals

      abbrev above : BallotValue
      above = next_ballot raised.after.node

      least : IsBelow b above
      least = below_at_most b (next_ballot own.after.node) above
          (inl (round_above b.round own.after.node.acceptor.state.promised.round (greatest_round own.after.node)
          (promised_round own.after.node.acceptor.state.promised own.after.node.rounds)
          (ap (λ (p : BallotValue). p.round) own_begun.promised))) raised.least

      fewer : (n : ℕ) → Contains others n → IsRival new above n → IsRival due b n
      fewer n o one =
          let is : one.replica ≡ (took n o).after = one_replica m IsText new tells.goes.after n one.replica
          (took n o).after one.up (then_up n o) in
          let there : IsBelow above (took n o).after.node.acceptor.state.promised =
          subst (λ (q : ReplicaValue). IsBelow above q.node.acceptor.state.promised) is one.above in
          elim (took_promised n o) [
            | inl e ↦ absurd (below_self b (at_most_below b above b (inl least)
                (subst (λ (p : BallotValue). IsBelow above p) e there)))
            | inr e ↦ record {
              replica = (k.others_may n o).replica;
              up = (k.others_may n o).up;
              above = at_most_below b above (k.others_may n o).replica.node.acceptor.state.promised (inl least)
                  (subst (λ (p : BallotValue). IsBelow above p) e there);
            }
          ]

      less : Contains others rival → IsRival new above rival → ⊥
      less o one =
          let is : one.replica ≡ (took rival o).after = one_replica m IsText new tells.goes.after rival one.replica
          (took rival o).after one.up (then_up rival o) in
          let there : IsBelow above (took rival o).after.node.acceptor.state.promised =
          subst (λ (q : ReplicaValue). IsBelow above q.node.acceptor.state.promised) is one.above in
          let same : (k.others_may rival o).replica ≡ is_rival.replica = one_replica m IsText due k.holds rival
          (k.others_may rival o).replica is_rival.replica (k.others_may rival o).up is_rival.up in
          elim (took_promised rival o) [
            | inl e ↦ below_self b (at_most_below b above b (inl least)
                (subst (λ (p : BallotValue). IsBelow above p) e there))
            | inr e ↦ below_self nack.promised (at_most_below nack.promised above nack.promised (inl raised.next)
                (subst (λ (p : BallotValue). IsBelow above p)
                (e ∙ ap (λ (q : ReplicaValue). q.node.acceptor.state.promised) same) there))
          ]

      pub settles : Contains others rival → IsNoRival new x rival
      settles o q there one = less o (subst (λ (y : ReplicaValue). IsRival new (next_ballot y.node) rival)
          (one_replica m IsText new tells.goes.after x q raised.after there raised.is) one)

      pub stays_settled : (n : ℕ) → Contains others n → IsNoRival due x n → IsNoRival new x n
      stays_settled n o none q there one = none c up
          (fewer n o (subst (λ (y : ReplicaValue). IsRival new (next_ballot y.node) n)
          (one_replica m IsText new tells.goes.after x q raised.after there raised.is) one))

      -- ---- rounds

      module _ (limit : ℕ) (own_low : greatest_round c.node < limit)
          (theirs_low : (n : ℕ) (o : Contains others n)
          → greatest_round (k.others_may n o).replica.node < limit) (o : Contains others rival) where
        nack_low : nack.promised.round < limit
        nack_low = subst (λ (q : ReplicaValue). q.node.acceptor.state.promised.round < limit)
            (one_replica m IsText due k.holds rival (k.others_may rival o).replica is_rival.replica
            (k.others_may rival o).up is_rival.up)
            (within (k.others_may rival o).replica.node.acceptor.state.promised.round
            (greatest_round (k.others_may rival o).replica.node) limit
            (promised_round (k.others_may rival o).replica.node.acceptor.state.promised
            (k.others_may rival o).replica.node.rounds) (theirs_low rival o))

        b_low : b.round < limit
        b_low = within b.round nack.promised.round limit (not_above b nack.promised is_rival.above) nack_low

        seen_low : c.node.rounds < limit
        seen_low = within c.node.rounds (greatest_round c.node) limit
            (seen_round c.node.acceptor.state.promised c.node.rounds) own_low

        nack_handled : Handled m IsText told.start rejects told.after.node told.out
        nack_handled = handled m IsText told.start rejects told.after.node told.out told.takes

        after_same : HasSame nack_handled.mid told.after.node
        after_same = proposed_same nack_handled.proposes.0 nack_handled.mid told.after.node nack_handled.first told.out
            nack_handled.proposes.1

        once : ((seeing b told.start).acceptor ≡ told.start.acceptor) × ((seeing b told.start).rounds < limit)
        once = seen_within b told.start limit (subst (λ (i : ℕ). i < limit) (sym told_begun.rounds) seen_low) b_low

        twice : ((seeing nack.promised (seeing b told.start)).acceptor ≡ (seeing b told.start).acceptor)
            × ((seeing nack.promised (seeing b told.start)).rounds < limit)
        twice = seen_within nack.promised (seeing b told.start) limit once.1 nack_low

        pub own_round_left : greatest_round told.after.node < limit
        own_round_left = both_below told.after.node.acceptor.state.promised told.after.node.rounds limit
            (subst (λ (a : AcceptorValue). a.state.promised.round < limit)
            (sym (after_same.acceptor ∙ ap (λ (n : NodeValue). n.acceptor) nack_handled.handles.0 ∙ twice.0 ∙ once.0))
            (subst (λ (p : BallotValue). p.round < limit) (sym told_begun.promised) b_low))
            (subst (λ (i : ℕ). i < limit)
            (sym (after_same.rounds ∙ ap (λ (n : NodeValue). n.rounds) nack_handled.handles.0)) twice.1)

        pub own_there : IsUpAs new x told.after
        own_there = told.is

        pub their_round_left : (n : ℕ) (o : Contains others n) → greatest_round (took n o).after.node < limit
        their_round_left n o = both_below (took n o).after.node.acceptor.state.promised (took n o).after.node.rounds
            limit promised_low (subst (λ (i : ℕ). i < limit) (sym (took_rounds n o)) seen_before)
          where
            seen_before : (k.others_may n o).replica.node.rounds < limit
            seen_before = within (k.others_may n o).replica.node.rounds (greatest_round
                (k.others_may n o).replica.node) limit
                (seen_round (k.others_may n o).replica.node.acceptor.state.promised
                (k.others_may n o).replica.node.rounds) (theirs_low n o)

            promised_low : (took n o).after.node.acceptor.state.promised.round < limit
            promised_low = elim (took_promised n o) [
              | inl e ↦ subst (λ (p : BallotValue). p.round < limit) (sym e) b_low
              | inr e ↦ subst (λ (p : BallotValue). p.round < limit) (sym e)
                  (within (k.others_may n o).replica.node.acceptor.state.promised.round (greatest_round
                  (k.others_may n o).replica.node) limit
                  (promised_round (k.others_may n o).replica.node.acceptor.state.promised
                  (k.others_may n o).replica.node.rounds) (theirs_low n o))
            ]
