-- Positions are filled one after another, and then a request is answered.
use Rattle.std.proofs.Common.{◌≡◌, ◌∙◌, ℕ, true, Some, List, [], ◌∷◌, map, refl, ap, sym, subst, arith}
use Rattle.std.proofs.lemmas.List.{length-map}
use Rattle.lk_types.specs.declared.command.Request.{Request as RequestValue}
use Rattle.lk_types.specs.declared.member.Member.{Member}
use Rattle.lk_types.specs.declared.vote.Vote.{Vote}
use Rattle.lk_messages.specs.declared.message.NodeMessage.TheVariants as kinds
use Rattle.lk_state.specs.Meanings.{Meaning}
use Rattle.lk_state.specs.Sessions.{session_of, is_new}
use Rattle.lk_leader.specs.Terms.{TermValue}
use Rattle.lk_leftovers.specs.Filling.{FilledLeaderIsReady}
use Rattle.lk_replica.specs.ReplicaValue.{ReplicaValue}
use Rattle.lk_sim.specs.WorldStates.{WorldState}
use Rattle.lk_world_progress.proofs.Stepping.{one_replica}
use Rattle.lk_world_progress.specs.Balloting.{HasSentTo}
use Rattle.lk_world_progress.specs.Exchanging.{number_of}
use Rattle.lk_world_progress.specs.Stepping.{IsUpAs}
use Rattle.lk_world_leftovers.proofs.Filling.{next_offered}
use Rattle.lk_world_leftovers.specs.Answering.{IsReadyIn, ReadyLeaderAnswers}
use Rattle.lk_world_leftovers.specs.Collecting.{CandidateFillsIn, HasCollected, HasLeftovers}
use Rattle.lk_world_leftovers.specs.Exchanging.{Exchanges, HaveCaughtUp, HaveFilled, IsNextIn, LeftoversAnswer}
use Rattle.lk_world_leftovers.specs.Exchanging.{LeftoversAreFilled, VotersCatchUp, WorldWithLeftoversAnswers}
use Rattle.lk_world_leftovers.specs.Filling.{FillsOnIn, IsFilling, IsNextVote, PositionIsFilled}

module _ (m : Meaning) (IsText : List ℕ → Type 0) where
  -- a leader is up as one replica, with one term
  one_term : (w : WorldState ReplicaValue) (x : ℕ) (leader : ReplicaValue) (t : TermValue) (set : List Member)
      (others : List ℕ) (last : ℕ) → IsFilling m IsText w x leader t set others last → (q : ReplicaValue)
      → IsUpAs w x q → (u : TermValue) → q.node.leader.term ≡ Some u → (leader ≡ q) × (t ≡ u)
  one_term w x leader t set others last k q up u is =
      let same : leader ≡ q = one_replica m IsText w k.holds x leader q k.up up in
      let e : Some t ≡ Some u =
      sym k.fills.leads.leads.current ∙ ap (λ (r : ReplicaValue). r.node.leader.term) same ∙ is in
      (same, cc e)

  next_vote : (w : WorldState ReplicaValue) (x : ℕ) (leader : ReplicaValue) (t : TermValue) (set : List Member)
      (others : List ℕ) (last : ℕ) (v : Vote) → IsFilling m IsText w x leader t set others last → IsNextIn w x v
      → IsNextVote leader.node t v
  next_vote w x leader t set others last v k next =
      let one = one_term w x leader t set others last k next.0 next.2 next.1 next.3 in
      subst (λ (u : TermValue). IsNextVote leader.node u v) (sym one.1)
      (subst (λ (r : ReplicaValue). IsNextVote r.node next.1 v) (sym one.0) next.4)

  module _ (law : PositionIsFilled m IsText) where
    pub in_turn : LeftoversAreFilled m IsText
    in_turn x leader t set others last [] old new k same = record {
      offered = tt;
      after = leader;
      term = t;
      ballot = refl;
      received = refl;
      moves = omega arith;
      fills = subst (λ (w : WorldState ReplicaValue). IsFilling m IsText w x leader t set others last) (sym same) k;
    }
    in_turn x leader t set others last (v ∷ vs) old new k run =
        let next : IsNextVote leader.node t v = next_vote old x leader t set others last v k run.1 in
        let one : FillsOnIn m IsText x leader t set others last v old run.0 run.2 =
        law old run.0 x leader t set others last v k next run.2 in
        let rest : HaveFilled m IsText x one.after one.term set others last vs run.0 new run.3 =
        in_turn x one.after one.term set others last vs run.0 new one.fills run.3 in
        record {
          offered = (
            λ n c. subst (λ (y : Vote). HasSentTo old x n (kinds.Accept y)) (sym next.is)
                (next_offered m IsText old x leader t set others last k next.proposal next.there n c),
            one.accepts,
            one.tells,
            rest.offered,
          );
          after = rest.after;
          term = rest.term;
          ballot = rest.ballot ∙ one.ballot;
          received = rest.received ∙ one.received;
          moves = omega (arith, one.moves, rest.moves);
          fills = rest.fills;
        }

  -- ---- the whole exchange

  module _ (collects : CandidateFillsIn m IsText) (fills : LeftoversAreFilled m IsText)
      (catches : VotersCatchUp m IsText) (ready : FilledLeaderIsReady) (answers : ReadyLeaderAnswers m IsText)
      (c : ReplicaValue) (set : List Member) (r : RequestValue) (others : List ReplicaValue) (highest : ℕ)
      (first last : WorldState ReplicaValue)
      (k : HasLeftovers m IsText first c set others highest)
      (run : Exchanges m IsText c r others first last)
      (fresh : is_new (session_of r.client run.leader.node.learner.whole.sessions) r.number ≡ true) where
    abbrev x : ℕ
    x = number_of c

    collected : HasCollected m IsText c set others highest first run.promised run.collects
    collected = collects c set others highest first run.promised k run.collects

    filled : HaveFilled m IsText x collected.leader collected.term set (map number_of others) highest run.votes
        run.promised run.filled run.fills
    filled = fills x collected.leader collected.term set (map number_of others) highest run.votes run.promised
        run.filled collected.fills run.fills

    caught : HaveCaughtUp m IsText x filled.after filled.term set (map number_of others) highest run.caught run.ready
    caught = catches x filled.after filled.term set (map number_of others) highest run.caught run.filled run.ready
        filled.fills run.among run.catch_up

    one : (filled.after ≡ run.leader) × (filled.term ≡ run.term)
    one = one_term run.ready x filled.after filled.term set (map number_of others) highest caught.fills run.leader
        run.is run.term run.current

    filling : IsFilling m IsText run.ready x run.leader run.term set (map number_of others) highest
    filling = subst
        (λ (q : ReplicaValue). IsFilling m IsText run.ready x q run.term set (map number_of others) highest) one.0
        (subst (λ (t : TermValue). IsFilling m IsText run.ready x filled.after t set (map number_of others)
        highest) one.1 caught.fills)

    ready_in : IsReadyIn m IsText run.ready x run.leader run.term set (map number_of others)
    ready_in = record {
      holds = filling.holds;
      up = filling.up;
      ready = ready run.leader.node run.term set filling.fills run.none_left;
      own = filling.own;
      voters = λ n d.
          let v = filling.voters n d in
          let near = run.reach n d v.replica v.up in
          (v.replica, v.up, record { from = v.votes; within = omega (arith, near) });
      distinct = filling.distinct;
      majority = filling.majority;
    }

    answered : LeftoversAnswer m IsText c set r others highest first last run
    answered = record {
      collected = collected;
      offered = filled.offered;
      few = omega (arith, filled.moves, filled.fills.within, collected.executed_is);
      few_caught = omega (arith, caught.few, length-map others number_of);
      served = answers x run.leader run.term set r (map number_of others) run.ready last ready_in fresh run.serves;
    }

pub leftovers_answer : (m : Meaning) (IsText : List ℕ → Type 0) → CandidateFillsIn m IsText
    → LeftoversAreFilled m IsText → VotersCatchUp m IsText → FilledLeaderIsReady → ReadyLeaderAnswers m IsText
    → WorldWithLeftoversAnswers m IsText
leftovers_answer m IsText collects fills catches ready answers c set r others highest first last k run fresh =
    answered m IsText collects fills catches ready answers c set r others highest first last k run fresh
