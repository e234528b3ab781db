-- Steps of a ballot in a world.
use Rattle.std.proofs.Common.{◌≡◌, ◌∙◌, ◌⊎◌, inl, inr, ℕ, ◌+◌, ◌*◌, ◌<◌, ◌≤◌, true, List, Contains, nat_lt}
use Rattle.std.proofs.Common.{refl, ap, sym, subst, arith}
use Rattle.lk_types.specs.BallotValue.{BallotValue}
use Rattle.lk_types.specs.Ballots.{IsBelow}
use Rattle.lk_types.specs.declared.vote.Vote.{Vote}
use Rattle.lk_messages.specs.declared.message.Content.TheVariants as content
use Rattle.lk_messages.specs.declared.message.NodeMessage.{NodeMessage}
use Rattle.lk_messages.specs.declared.message.NodeMessage.TheVariants as kinds
use Rattle.lk_members.specs.Ports.{is_named}
use Rattle.lk_agreement_laws.proofs.Histories.{filter_from}
use Rattle.lk_state.specs.Meanings.{Meaning}
use Rattle.lk_acceptor.specs.VoteLists.{votes_from}
use Rattle.lk_leader.specs.Terms.{begun}
use Rattle.lk_learner.specs.Learners.{executed, alpha}
use Rattle.lk_node_interface.specs.declared.input.Input.TheVariants.{Tick}
use Rattle.lk_node.specs.Beginning.{next_ballot}
use Rattle.lk_node.specs.CatchingUp.{refusal}
use Rattle.lk_node.specs.Nearness.{AreNear}
use Rattle.lk_node.specs.NewBases.{with_snapshot}
use Rattle.lk_node.specs.NodeValue.{NodeValue}
use Rattle.lk_node.specs.Reminding.{Ticks}
use Rattle.lk_node.specs.Telling.{envelope_to}
use Rattle.lk_node.specs.Waiting.{BeginsWhereDue, ticked}
use Rattle.lk_progress.specs.Electing.{AsksWindow, DueNodeAsks, IsDue}
use Rattle.lk_progress.specs.Exchanges.{prepare_by}
use Rattle.lk_progress.specs.Rejecting.{AcceptIsAcceptedOrRejected, PrepareIsPromisedOrRejected}
use Rattle.lk_progress.specs.Rejecting.{Accepts, AgreesWithKept, Promises, RejectsAccept, RejectsPrepare}
use Rattle.lk_replica.specs.ReplicaValue.{ReplicaValue}
use Rattle.lk_sim.specs.WorldStates.{WorldState}
use Rattle.lk_sim.specs.declared.event.Event.TheVariants as event
use Rattle.lk_world_progress.proofs.Delivering.{TakesFrom, among, heard_from}
use Rattle.lk_world_progress.proofs.Rebasing.{begun_rests}
use Rattle.lk_world_progress.proofs.Sending.{sent_as}
use Rattle.lk_world_progress.proofs.Stepping.{event_steps, found_header, found_is, has_header, one_replica}
use Rattle.lk_world_progress.specs.Balloting.{BeginsIn, DeliveredAcceptIsAnswered, DeliveredPrepareIsAnswered}
use Rattle.lk_world_progress.specs.Balloting.{HasSentTo, PromisesIn, RejectsAcceptIn, RejectsPrepareIn}
use Rattle.lk_world_progress.specs.Balloting.{TickBeginsBallot}
use Rattle.lk_world_progress.specs.Delivering.{Hears}
use Rattle.lk_world_progress.specs.Stepping.{GoesWell, IsFound, IsUpAs, TakesStep}

-- ---- what a snapshot keeps

due_snapshot : (node : NodeValue) → IsDue node → IsDue (with_snapshot node)
due_snapshot node due =
    record { idle = due.idle; waited = due.waited; round = due.round; position = due.position }

pub near_snapshot : (node : NodeValue) → AreNear node.acceptor node.learner
    → AreNear (with_snapshot node).acceptor (with_snapshot node).learner
near_snapshot node near = record {
  alpha_is = near.alpha_is;
  snapshot = omega arith;
  votes = λ v c. near.votes v
      (filter_from (λ (x : Vote). nat_lt (executed node.learner) x.position) node.acceptor.state.votes v c);
}

agrees_snapshot : (node : NodeValue) (x : Vote) → AgreesWithKept node x → AgreesWithKept (with_snapshot node) x
agrees_snapshot node x agrees v c = agrees v
    (filter_from (λ (y : Vote). nat_lt (executed node.learner) y.position) node.acceptor.state.votes v c)

module _ (r : ReplicaValue) (node : NodeValue) (found : IsFound r node) where
  -- whatever a snapshot keeps holds of the node as a step finds it
  pub found_has : (P : NodeValue → Type 0) → (P r.node → P (with_snapshot r.node)) → P r.node → P node
  found_has P keeps p = elim (found_is r node found) [
    | inl e ↦ subst P (sym e) p
    | inr e ↦ subst P (sym e) (keeps p)
  ]

  -- and whatever is true of that is true of the node before, if a snapshot changes nothing of it
  pub found_tells : (P : NodeValue → Type 0) → (P (with_snapshot r.node) → P r.node) → P node → P r.node
  found_tells P tells p = elim (found_is r node found) [
    | inl e ↦ subst P e p
    | inr e ↦ tells (subst P e p)
  ]

module _ (m : Meaning) (IsText : List ℕ → Type 0) where
  -- ---- a tick

  module _ (law : DueNodeAsks) (old new : WorldState ReplicaValue) (n : ℕ) (r : ReplicaValue) (up : IsUpAs old n r)
      (due : IsDue r.node)
      (goes : GoesWell m IsText old (event.Tick n) new) where
    module _ (s : TakesStep m IsText old n Tick new) where
      same : s.before ≡ r
      same = one_replica m IsText old goes.before n s.before r s.was up

      found : IsFound r s.start
      found = subst (λ (q : ReplicaValue). IsFound q s.start) same s.found

      start_due : IsDue s.start
      start_due = found_has r s.start found IsDue (due_snapshot r.node) due

      header : s.start.header ≡ r.node.header
      header = found_header r s.start found

      asks : AsksWindow s.start s.last s.out
      asks = law s.start s.last s.out start_due s.steps

      begins : BeginsWhereDue (ticked s.start) s.last s.out
      begins =
          let ticks : Ticks s.start s.last s.out = s.steps in
          elim ticks [ inl t ↦ absurd (cc (sym start_due.idle ∙ t.1.1)) | inr t ↦ t.1 ]

      after_is : s.after.node ≡ s.last
      after_is = s.left.rests (begun_rests (ticked s.start) s.last s.out begins)

      ballot : next_ballot s.start ≡ next_ballot r.node
      ballot = found_tells r s.start found (λ node. next_ballot s.start ≡ next_ballot node) (λ e. e) refl

      begun_in : BeginsIn n r.node new
      begun_in = record {
        after = s.after;
        is = s.is;
        term = (
          begun (next_ballot s.start),
          ap (λ (node : NodeValue). node.leader.term) after_is
              ∙ ap (λ (node : NodeValue). node.leader.term) asks.becomes,
          ballot,
        );
        promised = ap (λ (node : NodeValue). node.acceptor.state.promised) after_is
            ∙ ap (λ (node : NodeValue). node.acceptor.state.promised) asks.becomes ∙ ballot;
        asks = λ k above named. found_tells r s.start found (λ node. HasSentTo new n k (prepare_by node)) (λ h. h)
            (sent_as old new n k s.start (prepare_by s.start)
            (header ∙ has_header m IsText old goes.before n r up) s.genesis
            (among n s.out.envelopes old new s.sent (envelope_to s.start (prepare_by s.start) k)
            (asks.told k above
            (found_has r s.start found (λ node. is_named k node.learner.whole.roster.sets ≡ true)
            (λ e. e) named))));
      }

  pub tick_begins : DueNodeAsks → TickBeginsBallot m IsText
  tick_begins law old new n r up due goes =
      begun_in law old new n r up due goes (event_steps m IsText old new (event.Tick n) n Tick goes (refl, refl))

  -- ---- a Prepare

  module _ (law : PrepareIsPromisedOrRejected m IsText) (old new : WorldState ReplicaValue) (n : ℕ) (r : ReplicaValue)
      (from : ℕ) (up : IsUpAs old n r) (near : AreNear r.node.acceptor r.node.learner) where
    module _ (b : BallotValue) (first : ℕ)
        (hears : Hears m IsText n (content.Node from (kinds.Prepare b first)) old new)
        (s : TakesFrom m IsText n (content.Node from (kinds.Prepare b first)) old new) where
      asked_found : IsFound r s.start
      asked_found = subst (λ (q : ReplicaValue). IsFound q s.start)
          (one_replica m IsText old hears.goes.before n s.before r s.was up) s.found

      said : (y : NodeMessage) → Contains s.out.envelopes (envelope_to s.start y from) → HasSentTo new n from y
      said y c = sent_as old new n from s.start y
          (found_header r s.start asked_found ∙ has_header m IsText old hears.goes.before n r up) s.genesis
          (among n s.out.envelopes old new s.sent (envelope_to s.start y from) c)

      answer : Promises s.start from b first s.last s.out ⊎ RejectsPrepare s.start from b first s.last s.out
          → PromisesIn n r from b first new ⊎ RejectsPrepareIn n r from b first new
      answer (inl promises) = inl (
        s.start,
        asked_found,
        said (kinds.Promise (record {
          ballot = b;
          first = first;
          votes = votes_from first s.start.acceptor.state.votes;
        })) promises.told,
      )
      answer (inr rejects) = inr (found_tells r s.start asked_found
          (λ node. HasSentTo new n from (kinds.Nack (refusal b node))
          × (IsBelow b node.acceptor.state.promised ⊎ (first ≤ executed node.learner)))
          (λ e. e) (said (kinds.Nack (refusal b s.start)) rejects.told, rejects.why))

      prepared : PromisesIn n r from b first new ⊎ RejectsPrepareIn n r from b first new
      prepared = answer (law s.start s.last from b first s.out
          (found_has r s.start asked_found (λ node. AreNear node.acceptor node.learner) (near_snapshot r.node) near)
          s.takes)

  pub prepare_answered : PrepareIsPromisedOrRejected m IsText → DeliveredPrepareIsAnswered m IsText
  prepare_answered law old new n r from b first up near hears =
      prepared law old new n r from up near b first hears
      (heard_from m IsText n (content.Node from (kinds.Prepare b first)) old new hears)

  -- ---- an Accept

  module _ (law : AcceptIsAcceptedOrRejected m IsText) (old new : WorldState ReplicaValue) (n : ℕ) (r : ReplicaValue)
      (from : ℕ) (x : Vote) (up : IsUpAs old n r) (near : AreNear r.node.acceptor r.node.learner)
      (agrees : AgreesWithKept r.node x)
      (hears : Hears m IsText n (content.Node from (kinds.Accept x)) old new)
      (s : TakesFrom m IsText n (content.Node from (kinds.Accept x)) old new) where
    found_here : IsFound r s.start
    found_here = subst (λ (q : ReplicaValue). IsFound q s.start)
        (one_replica m IsText old hears.goes.before n s.before r s.was up) s.found

    sends : (y : NodeMessage) → Contains s.out.envelopes (envelope_to s.start y from) → HasSentTo new n from y
    sends y c = sent_as old new n from s.start y
        (found_header r s.start found_here ∙ has_header m IsText old hears.goes.before n r up) s.genesis
        (among n s.out.envelopes old new s.sent (envelope_to s.start y from) c)

    reply : Accepts s.start from x s.last s.out ⊎ RejectsAccept s.start from x s.last s.out
        → HasSentTo new n from (kinds.Accepted x) ⊎ RejectsAcceptIn n r from x new
    reply (inl accepts) = inl (sends (kinds.Accepted x) accepts.told)
    reply (inr rejects) = inr (found_tells r s.start found_here
        (λ node. HasSentTo new n from (kinds.Nack (refusal x.ballot node))
        × (IsBelow x.ballot node.acceptor.state.promised ⊎ (x.position ≤ executed node.learner)
        ⊎ (executed node.learner + 2 * alpha node.learner < x.position)))
        (λ e. e) (sends (kinds.Nack (refusal x.ballot s.start)) rejects.told, rejects.why))

    accepted : HasSentTo new n from (kinds.Accepted x) ⊎ RejectsAcceptIn n r from x new
    accepted = reply (law s.start s.last from x s.out
        (found_has r s.start found_here (λ node. AreNear node.acceptor node.learner) (near_snapshot r.node) near)
        (found_has r s.start found_here (λ node. AgreesWithKept node x) (agrees_snapshot r.node x) agrees) s.takes)

  pub accept_answered : AcceptIsAcceptedOrRejected m IsText → DeliveredAcceptIsAnswered m IsText
  accept_answered law old new n r from x up near agrees hears =
      accepted law old new n r from x up near agrees hears
      (heard_from m IsText n (content.Node from (kinds.Accept x)) old new hears)
