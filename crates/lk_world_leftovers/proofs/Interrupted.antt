-- Others have accepted what the first leader of a new cluster has proposed, and a new node contends with them.
use Rattle.std.proofs.Common.{◌≡◌, inl, inr, ℕ, ◌+◌, ◌*◌, ◌<◌, ◌≤◌, Bool, true, false, cond, eqb, nat_lt, List, []}
use Rattle.std.proofs.Common.{◌∷◌, map, None, Contains, refl, ap, sym, subst, arith}
use Rattle.std.proofs.lemmas.Bool.{eqb-true}
use Rattle.lk_types.specs.BallotValue.{BallotValue}
use Rattle.lk_types.specs.Ballots.{IsAtMost, is_below}
use Rattle.lk_types.specs.declared.command.Request.{Request as RequestValue}
use Rattle.lk_types.specs.declared.vote.Vote.{Vote}
use Rattle.lk_store_format.specs.VoteLists.{votes_with}
use Rattle.lk_messages.specs.declared.message.Content.{Content}
use Rattle.lk_messages.specs.declared.message.Content.TheVariants as content
use Rattle.lk_messages.specs.declared.message.NodeMessage.TheVariants as kinds
use Rattle.lk_agreement_laws.proofs.Histories.{contains_more}
use Rattle.lk_state.specs.Meanings.{Meaning}
use Rattle.lk_acceptor.specs.AcceptorValue.{AcceptorValue}
use Rattle.lk_acceptor.specs.VoteLists.{votes_from}
use Rattle.lk_learner.specs.Learners.{LearnerValue, Pair, alpha, executed}
use Rattle.lk_node_interface.specs.declared.input.Input.TheVariants.{Tick}
use Rattle.lk_node.specs.Beginning.{next_ballot}
use Rattle.lk_node.specs.Executing.{NothingToRun}
use Rattle.lk_node.specs.NodeValue.{NodeValue}
use Rattle.lk_progress.specs.Beginnings.{NewClustersAreQuiet, StartsQuietly, new_node}
use Rattle.lk_progress.specs.Electing.{promises}
use Rattle.lk_progress.specs.Exchanges.{IsQuietVoter, prepare_by, promise_to, vote_by}
use Rattle.lk_progress.specs.Rejecting.{PrepareIsPromisedOrRejected}
use Rattle.lk_leftovers.proofs.Accepting.{kept_or_new}
use Rattle.lk_leftovers.specs.Accepting.{AcceptsAndStays, IsVoterAt, IsVoterFrom, VoterAccepts}
use Rattle.lk_replica.specs.ReplicaValue.{ReplicaValue}
use Rattle.lk_sim.specs.Events.{IsAsked}
use Rattle.lk_sim.specs.WorldStates.{WorldState}
use Rattle.lk_sim.specs.declared.event.Event.TheVariants as event
use Rattle.lk_sim_nodes.specs.declared.sim_node.RunState.{RunState}
use Rattle.lk_sim_nodes.specs.declared.sim_node.RunState.TheVariants.{Up}
use Rattle.lk_sim_nodes.specs.declared.sim_node.SimNode.{SimNode}
use Rattle.lk_world_progress.proofs.Balloting.{found_has}
use Rattle.lk_world_progress.proofs.Delivering.{EachHeard, HeardIt, TakesFrom, each_heard, heard_from}
use Rattle.lk_world_progress.proofs.Stepping.{event_steps}
use Rattle.lk_world_progress.specs.Beginning.{IsNewIn, IsNewWorld}
use Rattle.lk_world_progress.specs.Delivering.{HearsInTurn}
use Rattle.lk_world_progress.specs.Exchanging.{number_of}
use Rattle.lk_world_progress.specs.Stepping.{IsUpAs, Lives, TakesStep}
use Rattle.lk_world_leftovers.proofs.Keeping.{from_snapshot}
use Rattle.lk_world_leftovers.proofs.Promising.{PromisesFrom, Stands, promises_from, stands_snapshot, then_votes}
use Rattle.lk_world_leftovers.specs.Interrupted.{HasVoteLeft, InterruptedWorldsContend, IsInterrupted, KeepsVote}
use Rattle.lk_world_leftovers.specs.Persisting.{MayVote}

-- a new vote at a position at which none is kept is kept
new_is_kept : (x : Vote) (vs : List Vote) → ((v : Vote) → Contains vs v → v.position ≡ x.position → ⊥)
    → Contains (votes_with x vs) x
new_is_kept x [] none = (0, omega arith, refl)
new_is_kept x (w ∷ vs) none =
    by_tests (new_is_kept x vs (λ v c. none v (contains_more w vs v c))) (nat_lt w.position x.position)
    (eqb w.position x.position) refl (is_below w.ballot x.ballot)
  where
    by_tests : Contains (votes_with x vs) x → (a s : Bool) → eqb w.position x.position ≡ s → (b : Bool)
        → Contains (cond a (w ∷ votes_with x vs) (cond s (cond b x w ∷ vs) (x ∷ w ∷ vs))) x
    by_tests rest true s is b = contains_more w (votes_with x vs) x rest
    by_tests rest false true is b = absurd (none w (0, omega arith, refl) (eqb-true w.position x.position is))
    by_tests rest false false is b = (0, omega arith, refl)

-- deliveries to one node change no other
turn_stays : (m : Meaning) (IsText : List ℕ → Type 0) (n : ℕ) (xs : List Content) (old new : WorldState ReplicaValue)
    → HearsInTurn m IsText n xs old new → (k : ℕ) (run_state : RunState ReplicaValue) → (k ≡ n → ⊥)
    → Lives old k run_state
    → Lives new k run_state
turn_stays m IsText n [] old new same k run_state apart up =
    subst (λ (w : WorldState ReplicaValue). Lives w k run_state) (sym same) up
turn_stays m IsText n (x ∷ xs) old new d k run_state apart up =
    let one : TakesFrom m IsText n x old d.0 = heard_from m IsText n x old d.0 d.1 in
    turn_stays m IsText n xs d.0 new d.2 k run_state apart (one.others k run_state apart up)

module _ (m : Meaning) (IsText : List ℕ → Type 0) (prepare_law : PrepareIsPromisedOrRejected m IsText)
    (voter_law : VoterAccepts m IsText) (c : ReplicaValue) (index ticks : ℕ) (r : RequestValue) (others : List ℕ)
    (x passed : ℕ) (z : ReplicaValue) (first last : WorldState ReplicaValue)
    (new : IsNewWorld m IsText first c index ticks others) (fresh : IsNewIn m first x passed z)
    (outside : Contains (number_of c ∷ others) x → ⊥) (run : IsInterrupted m IsText c r others first last)
    (quiet : StartsQuietly m first.genesis (number_of c) ticks) where
  abbrev own : ℕ
  own = number_of c

  abbrev b : BallotValue
  b = next_ballot c.node

  abbrev e : ℕ
  e = executed c.node.learner

  abbrev prepare : Content
  prepare = content.Node own (prepare_by c.node)

  abbrev accept : Content
  accept = content.Node own (kinds.Accept (vote_by c.node r))

  nothing : executed (new_node m first.genesis own ticks).learner ≤ 0
  nothing = (quiet.others own ticks).behind

  reach : executed c.node.learner ≤ 0
  reach = subst (λ (node : NodeValue). executed node.learner ≤ 0) (sym new.new.1) nothing

  -- a new node is quiet for the candidate
  quiet_one : (n k : ℕ) (q : ReplicaValue) → IsNewIn m first n k q → IsQuietVoter q.node b 0
  quiet_one n k q is = subst (λ (node : NodeValue). IsQuietVoter node b 0) (sym is.1)
      (subst (λ (node : NodeValue). IsQuietVoter (new_node m first.genesis n k) (next_ballot node) 0) (sym new.new.1)
      (quiet.others n k))

  no_vote : (n k : ℕ) (q : ReplicaValue) → IsNewIn m first n k q → (v : Vote)
      → Contains q.node.acceptor.state.votes v → ⊥
  no_vote n k q is = subst (λ (node : NodeValue). (v : Vote) → Contains node.acceptor.state.votes v → ⊥) (sym is.1)
      (λ v d. omega (arith, d.1))

  -- ---- what happens

  began : TakesStep m IsText first own Tick run.ticked
  began = event_steps m IsText first run.ticked (event.Tick own) own Tick run.ticks (refl, refl)

  asked : EachHeard m IsText prepare (own ∷ others) run.ticked run.asked
  asked = each_heard m IsText prepare (own ∷ others) run.ticked run.asked run.ticks.after tt new.distinct run.asks

  asking : IsAsked run.promised run.requested own r
  asking = run.requests.done.1

  request : TakesFrom m IsText own (content.Request r) run.requested run.proposed
  request = heard_from m IsText own (content.Request r) run.requested run.proposed run.proposes

  accepted : EachHeard m IsText accept others run.proposed last
  accepted = each_heard m IsText accept others run.proposed last run.proposes.goes.after tt new.distinct.1 run.accepts

  -- from the promises to the Accept only the candidate changes
  stays_on : (k : ℕ) (run_state : RunState ReplicaValue) → (k ≡ own → ⊥) → Lives run.asked k run_state
      → Lives run.proposed k run_state
  stays_on k run_state apart up = request.others k run_state apart
      (subst (λ (sim_nodes : List (SimNode ReplicaValue)). Contains sim_nodes (record {
        number = k;
        run_state =
            run_state;
      }))
      (sym asking.sim_nodes)
      (turn_stays m IsText own (promises (map (λ n. (n, promise_to c.node)) (own ∷ others))) run.asked run.promised
      run.leads k run_state apart up))

  -- ---- one that accepts

  module _ (n : ℕ) (there : Contains others n) where
    apart : n ≡ own → ⊥
    apart is = new.distinct.0 (subst (λ (j : ℕ). Contains others j) is there)

    abbrev voter : ReplicaValue
    voter = (new.voters n there).0

    abbrev is_new : IsNewIn m first n (new.voters n there).1 voter
    is_new = (new.voters n there).2

    quiet_voter : IsQuietVoter voter.node b 0
    quiet_voter = quiet_one n (new.voters n there).1 voter is_new

    none : (v : Vote) → Contains voter.node.acceptor.state.votes v → ⊥
    none = no_vote n (new.voters n there).1 voter is_new

    promising : HeardIt m IsText n prepare voter run.asked
    promising = asked.heard n voter (contains_more own others n there) (began.others n (Up voter) apart is_new.0)

    stands : Stands b e 0 [] promising.start
    stands = found_has voter promising.start promising.found (Stands b e 0 []) (stands_snapshot b e 0 [] voter.node)
        (record {
          behind = omega (arith, quiet_voter.behind);
          near = quiet_voter.near;
          left = record {
            low = λ v d. absurd (none v d);
            older = λ v d. absurd (none v d);
            keeps = λ v d. absurd (none v d);
          };
          reports = ap (λ (node : NodeValue). votes_from (e + 1) node.acceptor.state.votes) is_new.1;
        })

    ballot : IsAtMost promising.start.acceptor.state.promised b
    ballot = found_has voter promising.start promising.found (λ node. IsAtMost node.acceptor.state.promised b) (λ q. q)
        quiet_voter.ballot

    promise : PromisesFrom promising.start own b e 0 [] promising.after.node promising.out
    promise = promises_from m IsText prepare_law promising.start promising.after.node own b e 0 [] promising.out stands
        ballot promising.takes

    reaches : 0 < executed promising.after.node.learner + 2 * alpha promising.after.node.learner
    reaches = subst (λ (l : LearnerValue). 0 < executed l + 2 * alpha l) (sym promise.promises.learner)
        (found_has voter promising.start promising.found
        (λ node. 0 < executed node.learner + 2 * alpha node.learner) (λ q. q) quiet_voter.within)

    behind : executed promising.after.node.learner ≤ 0
    behind = subst (λ (l : LearnerValue). executed l ≤ 0) (sym promise.promises.learner)
        (found_has voter promising.start promising.found (λ node. executed node.learner ≤ 0) (λ q. q)
        quiet_voter.behind)

    accepting : HeardIt m IsText n accept promising.after last
    accepting = accepted.heard n promising.after there (stays_on n (Up promising.after) apart promising.is)

    start_reaches : 0 < executed accepting.start.learner + 2 * alpha accepting.start.learner
    start_reaches = found_has promising.after accepting.start accepting.found
        (λ node. 0 < executed node.learner + 2 * alpha node.learner) (λ q. q) reaches

    start_behind : executed accepting.start.learner ≤ 0
    start_behind = found_has promising.after accepting.start accepting.found (λ node. executed node.learner ≤ 0)
        (λ q. q) behind

    -- it knows no pair
    start_pairs : (p : Pair) → Contains accepting.start.learner.pairs p → p.0 ≤ 1
    start_pairs = found_has promising.after accepting.start accepting.found
        (λ node. (p : Pair) → Contains node.learner.pairs p → p.0 ≤ 1) (λ q. q)
        (subst (λ (l : LearnerValue). (p : Pair) → Contains l.pairs p → p.0 ≤ 1) (sym promise.promises.learner)
        (found_has voter promising.start promising.found
        (λ node. (p : Pair) → Contains node.learner.pairs p → p.0 ≤ 1) (λ q. q)
        (subst (λ (node : NodeValue). (p : Pair) → Contains node.learner.pairs p → p.0 ≤ 1) (sym is_new.1)
        (λ p d. absurd (omega (arith, d.1))))))

    ready : IsVoterAt accepting.start b (e + 1)
    ready = record {
      from = found_has promising.after accepting.start accepting.found (λ node. IsVoterFrom node b (e + 1))
          (from_snapshot promising.after.node b (e + 1))
          (then_votes promising.start promising.after.node own b e 0 [] promising.out promise);
      within = omega (arith, reach, start_reaches, start_behind);
    }

    low : (v : Vote) → Contains accepting.start.acceptor.state.votes v → v.position ≤ 0
    low = (found_has promising.after accepting.start accepting.found (Stands b e 0 [])
        (stands_snapshot b e 0 [] promising.after.node) promise.stands).left.low

    voted : AcceptsAndStays accepting.start own (vote_by c.node r) accepting.after.node accepting.out
    voted = voter_law accepting.start accepting.after.node own (vote_by c.node r) accepting.out ready accepting.takes

    abbrev after : NodeValue
    after = accepting.after.node

    may_vote : MayVote last 0 1 n
    may_vote = record {
      replica = accepting.after;
      up = accepting.is;
      near = (voted.stays (e + 2) (omega arith)).near;
      behind = subst (λ (l : LearnerValue). executed l ≤ 0) (sym voted.accepts.learner) start_behind;
      reaches = subst (λ (l : LearnerValue). 1 ≤ executed l + 2 * alpha l) (sym voted.accepts.learner)
          (omega (arith, start_reaches));
      pairs = subst (λ (l : LearnerValue). (p : Pair) → Contains l.pairs p → p.0 ≤ 1) (sym voted.accepts.learner)
          start_pairs;
      votes = λ v d. elim (kept_or_new (vote_by c.node r) accepting.start.acceptor.state.votes v
          (subst (λ (a : AcceptorValue). Contains a.state.votes v) voted.accepts.acceptor d)) [
            | inl is ↦ (let at : e + 1 ≡ v.position = ap (λ (y : Vote). y.position) is in omega (arith, at, reach))
            | inr before ↦ (let at = low v before in omega (arith, at))
          ];
    }

    keeps_vote : KeepsVote last n (vote_by c.node r)
    keeps_vote = (
      accepting.after,
      accepting.is,
      subst (λ (a : AcceptorValue). Contains a.state.votes (vote_by c.node r)) (sym voted.accepts.acceptor)
          (new_is_kept (vote_by c.node r) accepting.start.acceptor.state.votes
          (λ v d at. (let none_there = low v d in omega (arith, none_there, at)))),
    )

  -- ---- the new node

  x_apart : x ≡ own → ⊥
  x_apart is = outside (0, omega arith, sym is)

  x_other : Contains others x → ⊥
  x_other d = outside (contains_more own others x d)

  x_up : IsUpAs last x z
  x_up = accepted.others x (Up z) x_other
      (stays_on x (Up z) x_apart (asked.others x (Up z) outside (began.others x (Up z) x_apart fresh.0)))

  abbrev quiet_node : IsQuietVoter z.node b 0
  quiet_node = quiet_one x passed z fresh

  on_new : (P : NodeValue → Type 0) → P (new_node m first.genesis x passed) → P z.node
  on_new P p = subst P (sym fresh.1) p

  vote_left : HasVoteLeft m IsText x others (vote_by c.node r) last
  vote_left = record {
    contends = record {
      holds = accepted.holds;
      candidate = z;
      up = x_up;
      reach = omega (arith, quiet_node.behind);
      idle = on_new (λ node. node.leader.term ≡ None) refl;
      waiting = on_new (λ node. node.leader.waiting ≡ []) refl;
      known = on_new NothingToRun (λ v d. omega (arith, d.1));
      near = quiet_node.near;
      pairs = on_new (λ node. (p : Pair) → Contains node.learner.pairs p → p.0 ≤ 1)
          (λ p d. absurd (omega (arith, d.1)));
      votes = λ v d. absurd (no_vote x passed z fresh v d);
      others_may = may_vote;
      distinct = (x_other, new.distinct.1);
    };
    left = keeps_vote;
  }

pub interrupted_contend : (m : Meaning) (IsText : List ℕ → Type 0) → NewClustersAreQuiet
    → PrepareIsPromisedOrRejected m IsText → VoterAccepts m IsText → InterruptedWorldsContend m IsText
interrupted_contend m IsText quiet_law prepare_law voter_law c index ticks r others x passed z first last new fresh
    outside run =
    vote_left m IsText prepare_law voter_law c index ticks r others x passed z first last new fresh outside run
    (quiet_law m first.genesis (number_of c) index ticks new.due)
