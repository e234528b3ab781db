-- Voters at the end of their window take decided commands, and the leader fills up as before.
use Rattle.std.proofs.Common.{◌≡◌, ◌∙◌, inl, inr, ℕ, ◌+◌, ◌*◌, ◌<◌, ◌≤◌, eqb, List, [], ◌∷◌, length, Contains, refl, ap}
use Rattle.std.proofs.Common.{sym, subst, arith}
use Rattle.std.proofs.lemmas.Bool.{cases_Bool, eqb-false, eqb-true}
use Rattle.lk_types.specs.Ballots.{IsAtMost}
use Rattle.lk_types.specs.declared.member.Member.{Member}
use Rattle.lk_messages.specs.declared.message.Content.TheVariants as content
use Rattle.lk_messages.specs.declared.message.NodeMessage.TheVariants as kinds
use Rattle.lk_agreement_laws.proofs.Histories.{cons_cases, contains_more}
use Rattle.lk_state.specs.Meanings.{Meaning}
use Rattle.lk_acceptor.specs.AcceptorValue.{AcceptorValue}
use Rattle.lk_leader.specs.Terms.{TermValue}
use Rattle.lk_learner.specs.Learners.{alpha, executed}
use Rattle.lk_node_interface.specs.Envelopes.{batch_of}
use Rattle.lk_node.specs.NodeValue.{NodeValue}
use Rattle.lk_leftovers.specs.Accepting.{IsVoterFrom}
use Rattle.lk_replica.specs.ReplicaValue.{ReplicaValue}
use Rattle.lk_sim.specs.WorldStates.{WorldState}
use Rattle.lk_sim_nodes.specs.declared.sim_node.RunState.TheVariants.{Up}
use Rattle.lk_world_feeding.specs.Asking.{ReachesIn, SentCommandsAreExecuted}
use Rattle.lk_world_progress.proofs.Balloting.{found_has}
use Rattle.lk_world_progress.proofs.Delivering.{HeardIt, TakesFrom, heard_from, heard_it, still}
use Rattle.lk_world_progress.proofs.Stepping.{one_replica, shown}
use Rattle.lk_world_progress.specs.Delivering.{AreDistinct}
use Rattle.lk_world_leftovers.proofs.Filling.{still_sent}
use Rattle.lk_world_leftovers.proofs.Keeping.{from_snapshot}
use Rattle.lk_world_leftovers.proofs.Retrying.{few_distinct}
use Rattle.lk_world_leftovers.proofs.Taking.{Gets, decided_gets}
use Rattle.lk_world_leftovers.specs.Exchanging.{CatchUpInTurn, CatchesUp, ReachesNext, VotersCatchUp}
use Rattle.lk_world_leftovers.specs.Filling.{IsFilling, PairsUpTo, VotesIn, vote_of}

-- ---- one voter

module _ (m : Meaning) (IsText : List ℕ → Type 0) (law : SentCommandsAreExecuted m IsText) (x : ℕ)
    (leader : ReplicaValue) (t : TermValue) (set : List Member) (others : List ℕ) (last n : ℕ)
    (old new : WorldState ReplicaValue) (k : IsFilling m IsText old x leader t set others last)
    (other : Contains others n) (run : CatchesUp m IsText x n old new) where
  abbrev f : ℕ
  f = executed leader.node.learner

  apart : n ≡ x → ⊥
  apart is = k.distinct.0 (subst (λ (j : ℕ). Contains others j) is other)

  led : executed run.leader.node.learner ≡ f
  led = ap (λ (r : ReplicaValue). executed r.node.learner)
      (one_replica m IsText old k.holds x run.leader leader run.up k.up)

  voter : VotesIn old t.ballot (f + 1) last n
  voter = k.voters n other

  same : voter.replica ≡ run.voter
  same = one_replica m IsText old k.holds n voter.replica run.voter voter.up run.voter_up

  of_voter : (P : ReplicaValue → Type 0) → P voter.replica → P run.voter
  of_voter P p = subst P same p

  votes : IsVoterFrom run.voter.node t.ballot (f + 1)
  votes = of_voter (λ r. IsVoterFrom r.node t.ballot (f + 1)) voter.votes

  reaches : last ≤ executed run.voter.node.learner + 2 * alpha run.voter.node.learner
  reaches = of_voter (λ r. last ≤ executed r.node.learner + 2 * alpha r.node.learner) voter.reaches

  took : HeardIt m IsText n (content.Node run.from (kinds.Decided run.told)) run.voter new
  took = heard_it m IsText n (content.Node run.from (kinds.Decided run.told)) old new run.voter tt run.voter_up
      run.takes

  took_from : TakesFrom m IsText n (content.Node run.from (kinds.Decided run.told)) old new
  took_from = heard_from m IsText n (content.Node run.from (kinds.Decided run.told)) old new run.takes

  abbrev start : NodeValue
  start = took.start

  abbrev after : NodeValue
  after = took.after.node

  start_votes : IsVoterFrom start t.ballot (f + 1)
  start_votes = found_has run.voter start took.found (λ node. IsVoterFrom node t.ballot (f + 1))
      (from_snapshot run.voter.node t.ballot (f + 1)) votes

  start_executed : executed start.learner ≡ executed run.voter.node.learner
  start_executed = found_has run.voter start took.found
      (λ node. executed node.learner ≡ executed run.voter.node.learner) (λ q. q) refl

  start_alpha : alpha start.learner ≡ alpha run.voter.node.learner
  start_alpha = found_has run.voter start took.found
      (λ node. alpha node.learner ≡ alpha run.voter.node.learner) (λ q. q) refl

  some : 1 ≤ alpha start.learner
  some =
      let told_by = (shown m IsText old k.holds n run.voter run.voter_up).1.told.tells in
      omega (arith, told_by.some, told_by.window, start_alpha)

  got : Gets start.acceptor (alpha start.learner) last after
  got = decided_gets m IsText start.acceptor (alpha start.learner) last start after run.from run.told took.out some
      (omega (arith, run.known, led, k.within)) took.takes (record {
        acceptor = refl;
        reaches = record {
          width_is = refl;
          within = omega (arith, start_executed, votes.above, k.within);
          pairs = found_has run.voter start took.found (λ node. PairsUpTo node last) (λ q. q)
              (of_voter (λ r. PairsUpTo r.node last) voter.pairs);
        };
      })

  reached : ReachesIn n (run.told.first + length run.told.commands) old new
  reached = law old new n run.from run.voter run.told run.voter_up run.begins run.takes

  grows : executed start.learner < executed after.learner
  grows =
      let at : executed reached.now.node.learner ≡ executed after.learner =
      ap (λ (r : ReplicaValue). executed r.node.learner)
      (one_replica m IsText new run.takes.goes.after n reached.now took.after reached.is took.is) in
      omega (arith, at, reached.reaches, run.some, start_executed)

  -- the leader has executed up to the last position
  ends : last ≤ f
  ends = omega (arith, reaches, run.ends, led)

  still_votes : IsVoterFrom after t.ballot (f + 1)
  still_votes = record {
    near = record {
      alpha_is = ap (λ (a : AcceptorValue). a.alpha) got.acceptor ∙ start_votes.near.alpha_is
          ∙ sym got.reaches.width_is;
      snapshot = omega (
        arith,
        ap (λ (a : AcceptorValue). a.state.snapshot_position) got.acceptor,
        start_votes.near.snapshot,
        grows,
      );
      votes = λ v c.
          let kept = start_votes.near.votes v
          (subst (λ (a : AcceptorValue). Contains a.state.votes v) got.acceptor c) in
          omega (arith, kept, grows, got.reaches.width_is);
    };
    ballot = subst (λ (a : AcceptorValue). IsAtMost a.state.promised t.ballot) (sym got.acceptor) start_votes.ballot;
    above = omega (arith, got.reaches.within, ends);
    older = λ v c. start_votes.older v (subst (λ (a : AcceptorValue). Contains a.state.votes v) got.acceptor c);
  }

  caught_voter : VotesIn new t.ballot (f + 1) last n
  caught_voter = record {
    replica = took.after;
    up = took.is;
    votes = still_votes;
    pairs = got.reaches.pairs;
    reaches = omega (arith, reaches, grows, start_executed, start_alpha, got.reaches.width_is);
  }

  -- the leader's next position is one of its next 2 alpha by now
  pub caught_reaches : ReachesNext new leader n
  caught_reaches q up = subst (λ (r : ReplicaValue). f < executed r.node.learner + 2 * alpha r.node.learner)
      (one_replica m IsText new run.takes.goes.after n took.after q took.is up)
      (omega (arith, reaches, grows, start_executed, start_alpha, got.reaches.width_is, k.within))

  all_vote : (j : ℕ) → Contains others j → VotesIn new t.ballot (f + 1) last j
  all_vote j c = elim (cases_Bool (eqb j n)) [
    | inl is ↦ subst (VotesIn new t.ballot (f + 1) last) (sym (eqb-true j n is)) caught_voter
    | inr differs ↦ (let v : VotesIn old t.ballot (f + 1) last j = k.voters j c in record {
      replica = v.replica;
      up = took_from.others j (Up v.replica) (eqb-false j n differs) v.up;
      votes = v.votes;
      pairs = v.pairs;
      reaches = v.reaches;
    })
  ]

  pub caught_fills : IsFilling m IsText new x leader t set others last
  caught_fills = record {
    holds = run.takes.goes.after;
    up = took_from.others x (Up leader) (λ is. apart (sym is)) k.up;
    fills = k.fills;
    own = k.own;
    voters = all_vote;
    distinct = k.distinct;
    majority = k.majority;
    within = k.within;
    room = k.room;
    pairs = k.pairs;
    reported = k.reported;
    sent = λ p c j d. still_sent old new x j (kinds.Accept (vote_of t p))
        (λ e in_old. still old new (batch_of n took_from.out.envelopes) took_from.sent e in_old) took_from.genesis
        (k.sent p c j d);
  }

  -- another one reaches as far as before
  pub reaches_still : (j : ℕ) → (j ≡ n → ⊥) → Contains others j → ReachesNext old leader j → ReachesNext new leader j
  reaches_still j differs c near q up =
      let v : VotesIn old t.ballot (f + 1) last j = k.voters j c in
      subst (λ (r : ReplicaValue). f < executed r.node.learner + 2 * alpha r.node.learner)
      (one_replica m IsText new run.takes.goes.after j v.replica q (took_from.others j (Up v.replica) differs v.up) up)
      (near v.replica v.up)

-- ---- one after another

module _ (m : Meaning) (IsText : List ℕ → Type 0) (law : SentCommandsAreExecuted m IsText) (x : ℕ)
    (leader : ReplicaValue) (t : TermValue) (set : List Member) (others : List ℕ) (last : ℕ) where
  record Caught (ns : List ℕ) (old new : WorldState ReplicaValue) : Type 0 where
    fills : IsFilling m IsText new x leader t set others last
    once : AreDistinct ns
    none_again : (n : ℕ) → Contains others n → ReachesNext old leader n → Contains ns n → ⊥

  -- whoever reaches the leader's next position does not catch up
  not_at_end : (n : ℕ) (old new : WorldState ReplicaValue) → IsFilling m IsText old x leader t set others last
      → CatchesUp m IsText x n old new → ReachesNext old leader n → ⊥
  not_at_end n old new k run near =
      let led : executed run.leader.node.learner ≡ executed leader.node.learner =
      ap (λ (r : ReplicaValue). executed r.node.learner)
      (one_replica m IsText old k.holds x run.leader leader run.up k.up) in
      let beyond : executed leader.node.learner
      < executed run.voter.node.learner + 2 * alpha run.voter.node.learner = near run.voter run.voter_up in
      omega (arith, beyond, run.ends, led)

  all_catch : (ns : List ℕ) (old new : WorldState ReplicaValue) → IsFilling m IsText old x leader t set others last
      → ((n : ℕ) → Contains ns n → Contains others n) → CatchUpInTurn m IsText x ns old new → Caught ns old new
  all_catch [] old new k among same = record {
    fills = subst (λ (w : WorldState ReplicaValue). IsFilling m IsText w x leader t set others last) (sym same) k;
    once = tt;
    none_again = λ n c near d. omega (arith, d.1);
  }
  all_catch (n ∷ ns) old new k among d =
      let here : Contains others n = among n (0, omega arith, refl) in
      let rest : Caught ns d.0 new =
      all_catch ns d.0 new (caught_fills m IsText law x leader t set others last n old d.0 k here d.1)
      (λ j c. among j (contains_more n ns j c)) d.2 in
      record {
        fills = rest.fills;
        once = (
          rest.none_again n here (caught_reaches m IsText law x leader t set others last n old d.0 k here d.1),
          rest.once,
        );
        none_again = λ j c near in_list. elim (cases_Bool (eqb j n)) [
          | inl is ↦ not_at_end n old d.0 k d.1 (subst (λ (i : ℕ). ReachesNext old leader i) (eqb-true j n is) near)
          | inr differs ↦ rest.none_again j c
              (reaches_still m IsText law x leader t set others last n old d.0 k here d.1 j (eqb-false j n differs) c
              near) (later j (eqb-false j n differs) in_list)
        ];
      }
    where
      later : (j : ℕ) → (j ≡ n → ⊥) → Contains (n ∷ ns) j → Contains ns j
      later j differs c = elim (cons_cases n ns j c) [ inl is ↦ absurd (differs (sym is)) | inr rest ↦ rest ]

pub voters_catch : (m : Meaning) (IsText : List ℕ → Type 0) → SentCommandsAreExecuted m IsText
    → VotersCatchUp m IsText
voters_catch m IsText law x leader t set others last ns old new k among run =
    let all : Caught m IsText law x leader t set others last ns old new =
    all_catch m IsText law x leader t set others last ns old new k among run in
    record { once = all.once; few = few_distinct ns others all.once among; fills = all.fills }
