-- A candidate of a world hears the promises of a majority, leads and fills up.
use Rattle.std.proofs.Common.{◌≡◌, ◌∙◌, inl, inr, ℕ, ◌+◌, ◌*◌, ◌≤◌, List, [], ◌∷◌, map, Some, Contains, refl, ap}
use Rattle.std.proofs.Common.{sym, subst, arith}
use Rattle.lk_types.specs.BallotValue.{BallotValue}
use Rattle.lk_types.specs.Ballots.{IsAtMost, IsBelow}
use Rattle.lk_types.specs.declared.member.Member.{Member}
use Rattle.lk_types.specs.declared.vote.Vote.{Vote}
use Rattle.lk_messages.specs.Values.{PromiseValue}
use Rattle.lk_messages.specs.declared.message.Content.{Content}
use Rattle.lk_messages.specs.declared.message.Content.TheVariants as content
use Rattle.lk_messages.specs.declared.message.NodeMessage.TheVariants as kinds
use Rattle.lk_agreement_laws.proofs.Histories.{cons_cases, contains_more}
use Rattle.lk_members.specs.Majorities.{IsMajority}
use Rattle.lk_members.specs.Nodes.{nodes_of}
use Rattle.lk_state.specs.Meanings.{Meaning}
use Rattle.lk_acceptor.specs.AcceptorValue.{AcceptorValue}
use Rattle.lk_acceptor.specs.VoteLists.{votes_from}
use Rattle.lk_leader.specs.Terms.{LeaderValue, ProposalValue, ReceivedPromise, TermValue, begun}
use Rattle.lk_learner.specs.Learners.{LearnerValue, Pair, alpha, executed}
use Rattle.lk_node_interface.specs.declared.input.Input.TheVariants.{Tick}
use Rattle.lk_node.proofs.Nodes.{map_contains, map_has}
use Rattle.lk_node.specs.Beginning.{beginning, next_ballot}
use Rattle.lk_node.specs.Leavings.{header_of}
use Rattle.lk_node.specs.Nearness.{AreNear}
use Rattle.lk_node.specs.NodeValue.{NodeValue}
use Rattle.lk_node.specs.Reminding.{Ticks}
use Rattle.lk_node.specs.Telling.{envelope_to}
use Rattle.lk_node.specs.Waiting.{BeginsWhereDue, ticked}
use Rattle.lk_progress.proofs.Electing.{named_by}
use Rattle.lk_progress.proofs.Exchanges.{node_named}
use Rattle.lk_progress.proofs.Proposing.{next_set, some_set}
use Rattle.lk_progress.specs.Electing.{AsksWindow, DueNodeAsks, IsDue, promises}
use Rattle.lk_progress.specs.Exchanges.{prepare_by}
use Rattle.lk_progress.specs.Rejecting.{PrepareIsPromisedOrRejected}
use Rattle.lk_rebases.specs.Pasts.{IsPlain}
use Rattle.lk_leftovers.proofs.Offering.{Offers, Tells, promises_offer, vote_in}
use Rattle.lk_leftovers.specs.Accepting.{IsVoterAt, IsVoterFrom}
use Rattle.lk_leftovers.specs.Collecting.{HasBegun, LeadsToFill, MayBeHeard, PromisedCandidateFills}
use Rattle.lk_replica.specs.ReplicaValue.{ReplicaValue}
use Rattle.lk_sim.specs.WorldStates.{WorldState}
use Rattle.lk_sim.specs.declared.event.Event.TheVariants as event
use Rattle.lk_sim_nodes.specs.declared.sim_node.RunState.{RunState}
use Rattle.lk_sim_nodes.specs.declared.sim_node.RunState.TheVariants.{Up}
use Rattle.lk_world_progress.proofs.Balloting.{found_has, found_tells, tick_begins}
use Rattle.lk_world_progress.proofs.Delivering.{EachHeard, HeardIt, among, each_heard}
use Rattle.lk_world_progress.proofs.Exchanging.{each_promise}
use Rattle.lk_world_progress.proofs.Rebasing.{begun_rests}
use Rattle.lk_world_progress.proofs.Sending.{sent_as}
use Rattle.lk_world_progress.proofs.Shadowing.{ShadowTakesAll, shadow_in_turn, shadows_itself}
use Rattle.lk_world_progress.proofs.Stepping.{event_steps, found_header, has_header, one_replica}
use Rattle.lk_world_progress.specs.Balloting.{BeginsIn, HasSentTo}
use Rattle.lk_world_progress.specs.Delivering.{HearsEach, HearsInTurn, InstallsNothing}
use Rattle.lk_world_progress.specs.Exchanging.{number_of}
use Rattle.lk_world_progress.specs.Stepping.{GoesWell, IsFound, IsUpAs, Lives, TakesStep}
use Rattle.lk_world_leftovers.proofs.Keeping.{fills_itself, votes_itself}
use Rattle.lk_world_leftovers.proofs.Promising.{HasTerm, Knows, PromisesFrom, Stands, StillBegun, above_from}
use Rattle.lk_world_leftovers.proofs.Promising.{knows_alike, knows_snapshot, own_prepare, promises_from}
use Rattle.lk_world_leftovers.proofs.Promising.{stands_promised, stands_snapshot, then_votes}
use Rattle.lk_world_leftovers.specs.Collecting.{AreLeftovers, CandidateFillsIn, Collects, HasCollected, HasLeftovers}
use Rattle.lk_world_leftovers.specs.Collecting.{IsNearVoter, promise_in}
use Rattle.lk_world_leftovers.specs.Filling.{IsFilling, PairsUpTo, VotesIn}

-- ---- the exchange

-- the numbers of those that promise
numbers_of : (node : NodeValue) (rs : List ReplicaValue)
    → map (λ (h : ℕ × PromiseValue). h.0) (map (λ (r : ReplicaValue). (number_of r, promise_in node r)) rs)
    ≡ map number_of rs
numbers_of node [] = refl
numbers_of node (r ∷ rs) = ap (λ (ns : List ℕ). number_of r ∷ ns) (numbers_of node rs)

-- The steps of a run, as far as it has come: first the tick, then what is asked, and then the promises.
module _ (m : Meaning) (IsText : List ℕ → Type 0) (asks_law : DueNodeAsks)
    (prepare_law : PrepareIsPromisedOrRejected m IsText) (c : ReplicaValue) (set : List Member)
    (others : List ReplicaValue) (highest : ℕ) (first : WorldState ReplicaValue)
    (k : HasLeftovers m IsText first c set others highest) (begun_in : WorldState ReplicaValue)
    (ticks : GoesWell m IsText first (event.Tick (number_of c)) begun_in) where
  abbrev pub x : ℕ
  x = number_of c

  abbrev pub e : ℕ
  e = executed c.node.learner

  abbrev pub b : BallotValue
  b = next_ballot c.node

  abbrev prepare : Content
  prepare = content.Node x (prepare_by c.node)

  abbrev heard : List (ℕ × PromiseValue)
  heard = map (λ (r : ReplicaValue). (number_of r, promise_in c.node r)) (c ∷ others)

  abbrev pub own_votes : List Vote
  own_votes = votes_from (e + 1) c.node.acceptor.state.votes

  -- ---- the tick

  pub record Began : Type 0 where
    pub after : ReplicaValue
    pub is : IsUpAs begun_in x after
    pub knows : Knows set e highest after.node
    pub stands : Stands b e highest own_votes after.node
    pub has : HasTerm b after.node
    pub stay : (j : ℕ) (run_state : RunState ReplicaValue) → (j ≡ x → ⊥) → Lives first j run_state
        → Lives begun_in j run_state
    pub genesis : begun_in.genesis ≡ first.genesis

  module _ (s : TakesStep m IsText first x Tick begun_in) where
    found : IsFound c s.start
    found = subst (λ (q : ReplicaValue). IsFound q s.start)
        (one_replica m IsText first k.holds x s.before c s.was k.up) s.found

    start_due : IsDue s.start
    start_due = found_has c s.start found IsDue
        (λ d. record { idle = d.idle; waited = d.waited; round = d.round; position = d.position }) k.candidate_is.due

    ballot : next_ballot s.start ≡ b
    ballot = found_tells c s.start found (λ node. next_ballot s.start ≡ next_ballot node) (λ q. q) refl

    asks : AsksWindow s.start s.last s.out
    asks = asks_law s.start s.last s.out start_due s.steps

    begins : BeginsWhereDue (ticked s.start) s.last s.out
    begins =
        let it : Ticks s.start s.last s.out = s.steps in
        elim it [ inl t ↦ absurd (cc (sym start_due.idle ∙ t.1.1)) | inr t ↦ t.1 ]

    after_is : s.after.node ≡ beginning (next_ballot s.start) (ticked s.start)
    after_is = s.left.rests (begun_rests (ticked s.start) s.last s.out begins) ∙ asks.becomes

    start_waiting : s.start.leader.waiting ≡ []
    start_waiting = found_has c s.start found (λ node. node.leader.waiting ≡ []) (λ q. q) k.candidate_is.waiting

    start_knows : Knows set e highest s.start
    start_knows = found_has c s.start found (Knows set e highest) (knows_snapshot set e highest c.node) (record {
      reach = refl;
      members = k.candidate_is.members;
      fixed = k.candidate_is.fixed;
      named = k.candidate_is.named;
      known = k.candidate_is.known;
      unchanged = k.candidate_is.unchanged;
      keeps = k.candidate_is.keeps;
      pairs = k.candidate_is.pairs;
    })

    start_stands : Stands b e highest own_votes s.start
    start_stands = found_has c s.start found (Stands b e highest own_votes)
        (stands_snapshot b e highest own_votes c.node) (record {
          behind = omega arith;
          near = k.candidate_is.near;
          left = k.candidate_is.votes;
          reports = refl;
        })

    began_by : Began
    began_by = record {
      after = s.after;
      is = s.is;
      knows = knows_alike set e highest s.start s.after.node (ap (λ (n : NodeValue). n.learner) after_is)
          (ap (λ (n : NodeValue). n.header) after_is) start_knows;
      stands = stands_promised b (next_ballot s.start) e highest own_votes s.start s.after.node
          (ap (λ (n : NodeValue). n.acceptor) after_is) (ap (λ (n : NodeValue). n.learner) after_is) start_stands;
      has = record {
        current = ap (λ (n : NodeValue). n.leader.term) after_is ∙ ap (λ (y : BallotValue). Some (begun y)) ballot;
        waiting = ap (λ (n : NodeValue). n.leader.waiting) after_is ∙ start_waiting;
        promised = ap (λ (n : NodeValue). n.acceptor.state.promised) after_is ∙ ballot;
      };
      stay = s.others;
      genesis = s.genesis;
    }

  pub began : Began
  began = began_by (event_steps m IsText first begun_in (event.Tick x) x Tick ticks (refl, refl))

  module _ (polled : WorldState ReplicaValue)
      (polls : HearsEach m IsText (content.Node (number_of c) (prepare_by c.node)) (map number_of (c ∷ others))
      begun_in polled) where
    -- ---- the promises

    taken : EachHeard m IsText prepare (map number_of (c ∷ others)) begun_in polled
    taken = each_heard m IsText prepare (map number_of (c ∷ others)) begun_in polled ticks.after tt k.distinct
        polls

    own : HeardIt m IsText x prepare began.after polled
    own = taken.heard x began.after (0, omega arith, refl) began.is

    abbrev start : NodeValue
    start = own.start

    abbrev second : NodeValue
    second = own.after.node

    own_knows : Knows set e highest start
    own_knows = found_has began.after start own.found (Knows set e highest)
        (knows_snapshot set e highest began.after.node) began.knows

    own_has : HasTerm b start
    own_has = found_has began.after start own.found (HasTerm b)
        (λ h. record { current = h.current; waiting = h.waiting; promised = h.promised }) began.has

    own_promise : PromisesFrom start x b e highest own_votes second own.out
    own_promise = promises_from m IsText prepare_law start second x b e highest own_votes own.out
        (found_has began.after start own.found (Stands b e highest own_votes)
        (stands_snapshot b e highest own_votes began.after.node) began.stands) (inr own_has.promised) own.takes

    still_begun : StillBegun b start second
    still_begun = own_prepare m IsText start second x b e highest own_votes set own.out own_promise own_has own_knows
        own.takes

    second_knows : Knows set e highest second
    second_knows = knows_alike set e highest start second own_promise.promises.learner still_begun.header own_knows

    second_term : second.leader.term ≡ Some (begun b)
    second_term = ap (λ (l : LeaderValue). l.term) still_begun.leader ∙ own_has.current

    some : 1 ≤ alpha second.learner
    some = some_set second.learner.whole.roster set second_knows.members

    own_header : start.header ≡ header_of begun_in.genesis x
    own_header = found_header began.after start own.found
        ∙ has_header m IsText begun_in ticks.after x began.after began.is

    own_sent : HasSentTo polled x x (kinds.Promise (promise_in c.node c))
    own_sent = sent_as begun_in polled x x start (kinds.Promise (promise_in c.node c)) own_header taken.genesis
        (own.sent (envelope_to start (kinds.Promise (promise_in c.node c)) x) own_promise.told)

    -- another node
    module _ (r : ReplicaValue) (other : Contains others r) where
      number_in : Contains (map number_of others) (number_of r)
      number_in = map_has number_of others r other

      apart : number_of r ≡ x → ⊥
      apart is = k.distinct.0 (subst (λ (j : ℕ). Contains (map number_of others) j) is number_in)

      abbrev their_votes : List Vote
      their_votes = votes_from (e + 1) r.node.acceptor.state.votes

      abbrev near_voter : IsNearVoter r.node b e highest
      near_voter = k.voters r other

      promising : HeardIt m IsText (number_of r) prepare r polled
      promising = taken.heard (number_of r) r (contains_more x (map number_of others) (number_of r) number_in)
          (began.stay (number_of r) (Up r) apart (k.others_up r other))

      their_promise : PromisesFrom promising.start x b e highest their_votes promising.after.node promising.out
      their_promise = promises_from m IsText prepare_law promising.start promising.after.node x b e highest their_votes
          promising.out
          (found_has r promising.start promising.found (Stands b e highest their_votes)
          (stands_snapshot b e highest their_votes r.node) (record {
            behind = near_voter.behind;
            near = near_voter.near;
            left = near_voter.votes;
            reports = refl;
          }))
          (found_has r promising.start promising.found (λ node. IsAtMost node.acceptor.state.promised b) (λ q. q)
          near_voter.ballot) promising.takes

      their_sent : HasSentTo polled (number_of r) x (kinds.Promise (promise_in c.node r))
      their_sent = sent_as first polled (number_of r) x promising.start (kinds.Promise (promise_in c.node r))
          (found_header r promising.start promising.found
          ∙ has_header m IsText first k.holds (number_of r) r (k.others_up r other))
          (taken.genesis ∙ began.genesis)
          (promising.sent (envelope_to promising.start (kinds.Promise (promise_in c.node r)) x) their_promise.told)

      they_reach : highest ≤ executed promising.after.node.learner + 2 * alpha promising.after.node.learner
      they_reach = subst (λ (l : LearnerValue). highest ≤ executed l + 2 * alpha l)
          (sym their_promise.promises.learner)
          (found_has r promising.start promising.found
          (λ node. highest ≤ executed node.learner + 2 * alpha node.learner) (λ q. q) near_voter.reaches)

      they_know : PairsUpTo promising.after.node highest
      they_know = subst (λ (l : LearnerValue). (p : Pair) → Contains l.pairs p → p.0 ≤ highest)
          (sym their_promise.promises.learner)
          (found_has r promising.start promising.found (λ node. PairsUpTo node highest) (λ q. q) near_voter.pairs)

    pub all_sent : (r : ReplicaValue) → Contains (c ∷ others) r
        → HasSentTo polled (number_of r) x (kinds.Promise (promise_in c.node r))
    all_sent r d = elim (cons_cases c others r d) [
      | inl is ↦ subst (λ (q : ReplicaValue). HasSentTo polled (number_of q) x (kinds.Promise (promise_in c.node q)))
          is own_sent
      | inr other ↦ their_sent r other
    ]

    module _ (fills_law : PromisedCandidateFills m IsText) (last : WorldState ReplicaValue)
        (hears : HearsInTurn m IsText (number_of c)
        (promises (map (λ r. (number_of r, promise_in c.node r)) (c ∷ others))) polled last) where
      -- ---- the candidate takes them

      chain : ShadowTakesAll m IsText x (promises heard) second polled last
      chain = shadow_in_turn m IsText x (promises heard) second polled last own.after taken.holds own.is
          (shadows_itself second some own_promise.stands.near.snapshot)
          (each_promise InstallsNothing (λ n p. tt) heard)
          (each_promise (λ y. (i : ℕ) → IsPlain i y) (λ n p i. tt) heard) hears

      -- what is heard was promised
      was_promised : (h : ℕ × PromiseValue) → Contains heard h
          → (r : ReplicaValue) × Contains (c ∷ others) r × ((number_of r, promise_in c.node r) ≡ h)
      was_promised h d = map_contains (λ (r : ReplicaValue). (number_of r, promise_in c.node r)) (c ∷ others) h d

      leftovers : (r : ReplicaValue) → Contains (c ∷ others) r → AreLeftovers r.node b e highest
      leftovers r d = elim (cons_cases c others r d) [
        | inl is ↦ subst (λ (q : ReplicaValue). AreLeftovers q.node b e highest) is k.candidate_is.votes
        | inr other ↦ (k.voters r other).votes
      ]

      begun_as : HasBegun second (begun b) set
      begun_as = record {
        current = second_term;
        none_received = refl;
        none_proposed = refl;
        waiting = ap (λ (l : LeaderValue). l.waiting) still_begun.leader ∙ own_has.waiting;
        members = second_knows.members;
        fixed = second_knows.fixed;
        named = second_knows.named;
        keeps = second_knows.keeps;
        unchanged = second_knows.unchanged;
        known = second_knows.known;
        room = omega (arith, second_knows.reach, k.candidate_is.within, k.room);
      }

      may_be_heard : MayBeHeard second (begun b) heard
      may_be_heard = record {
        usable = record {
          ballot = λ h d. let r = was_promised h d in ap (λ (g : ℕ × PromiseValue). g.1.ballot) (sym r.2);
          first = λ h d.
              let r = was_promised h d in
              let at : h.1.first ≡ e + 1 = ap (λ (g : ℕ × PromiseValue). g.1.first) (sym r.2) in
              omega (arith, at, second_knows.reach);
          before = λ q d. absurd (omega (arith, d.1));
        };
        keeps = λ h d v in_votes.
            let r = was_promised h d in
            let there = above_from (e + 1) r.0.node.acceptor.state.votes v
            (subst (λ (g : ℕ × PromiseValue). Contains g.1.votes v) (sym r.2) in_votes) in
            (leftovers r.0 r.1).keeps v there.0 (omega (arith, there.1));
      }

      leads : LeadsToFill second (begun b) set chain.shadow_after
      leads = fills_law second chain.shadow_after (begun b) set heard chain.envelopes begun_as still_begun.idle
          may_be_heard
          (subst (λ (ns : List ℕ). IsMajority ns set) (sym (numbers_of c.node (c ∷ others))) k.majority) chain.takes

      -- ---- what that leaves

      abbrev last_node : NodeValue
      last_node = chain.shadow_after

      abbrev F : Vote → Type 0
      F y = (n : ℕ) → Contains (nodes_of set) n → HasSentTo last x n (kinds.Accept y)

      abbrev G : Vote → Type 0
      G y = y.position ≤ highest

      told : (y : Vote)
          → ((n : ℕ) → Contains (nodes_of set) n → Tells second.header chain.envelopes (kinds.Accept y) n) → F y
      told y each n d =
          let s : Tells second.header chain.envelopes (kinds.Accept y) n = each n d in
          sent_as polled last x n s.node (kinds.Accept y)
          (s.header ∙ has_header m IsText polled taken.holds x own.after own.is) chain.genesis
          (among x chain.envelopes polled last chain.sent (envelope_to s.node (kinds.Accept y) n) s.told)

      one_term : (u : TermValue) → second.leader.term ≡ Some u → begun b ≡ u
      one_term u is = let q : Some (begun b) ≡ Some u = sym second_term ∙ is in cc q

      offers_before : Offers b second.header second.acceptor F G second
      offers_before = record {
        header = refl;
        acceptor = refl;
        ballot = λ u is. ap (λ (w : TermValue). w.ballot) (sym (one_term u is));
        offered = λ u is p d. absurd (none_in p
            (subst (λ (w : TermValue). Contains w.proposals p) (sym (one_term u is)) d));
        reported = λ u is q d. absurd (none_heard q
            (subst (λ (w : TermValue). Contains w.received q) (sym (one_term u is)) d));
      }
        where
          none_in : (p : ProposalValue) → Contains [] p → ⊥
          none_in p d = omega (arith, d.1)

          none_heard : (q : ReceivedPromise) → Contains [] q → ⊥
          none_heard q d = omega (arith, d.1)

      offers : Offers b second.header second.acceptor F G last_node
      offers = promises_offer b second.header second.acceptor F G set chain.envelopes told m IsText heard
          second last_node
          chain.envelopes
          (λ h d v in_votes.
          let r = was_promised h d in
          (leftovers r.0 r.1).low v (above_from (e + 1) r.0.node.acceptor.state.votes v
          (subst (λ (g : ℕ × PromiseValue). Contains g.1.votes v) (sym r.2) in_votes)).0)
          chain.takes second_knows.fixed (λ l d. d) offers_before

      last_reach : executed last_node.learner ≡ e
      last_reach = ap (λ (l : LearnerValue). executed l) leads.learner ∙ second_knows.reach

      after_reach : executed chain.after.node.learner ≡ e
      after_reach = sym (ap (λ (n : NodeValue). executed n.learner) chain.shadows.is) ∙ last_reach

      own_voter : IsVoterAt last_node b (e + 1)
      own_voter =
          let v : IsVoterFrom second b (e + 1) = then_votes start second x b e highest own_votes own.out own_promise in
          record {
            from = record {
              near = subst (λ (l : LearnerValue). AreNear last_node.acceptor l) (sym leads.learner)
                  (subst (λ (a : AcceptorValue). AreNear a second.learner) (sym offers.acceptor) v.near);
              ballot = subst (λ (a : AcceptorValue). IsAtMost a.state.promised b) (sym offers.acceptor) v.ballot;
              above = omega (arith, last_reach);
              older = subst (λ (a : AcceptorValue). (y : Vote) → Contains a.state.votes y → e + 1 ≤ y.position
                  → IsBelow y.ballot b) (sym offers.acceptor) v.older;
            };
            within = omega (arith, last_reach, ap (λ (l : LearnerValue). alpha l) leads.learner, some);
          }

      voter_in : (r : ReplicaValue) → Contains others r
          → VotesIn last leads.term.ballot (executed chain.after.node.learner + 1) highest (number_of r)
      voter_in r other = record {
        replica = (promising r other).after;
        up = chain.others (number_of r) (Up (promising r other).after) (apart r other) (promising r other).is;
        votes = subst (λ (y : BallotValue). IsVoterFrom (promising r other).after.node y
            (executed chain.after.node.learner + 1)) (sym leads.ballot)
            (subst (λ (i : ℕ). IsVoterFrom (promising r other).after.node b (i + 1)) (sym after_reach)
            (then_votes (promising r other).start (promising r other).after.node x b e highest
            (votes_from (e + 1) r.node.acceptor.state.votes) (promising r other).out (their_promise r other)));
        pairs = they_know r other;
        reaches = they_reach r other;
      }

      voters : (n : ℕ) → Contains (map number_of others) n
          → VotesIn last leads.term.ballot (executed chain.after.node.learner + 1) highest n
      voters n d =
          let r = map_contains number_of others n d in
          subst (VotesIn last leads.term.ballot (executed chain.after.node.learner + 1) highest) r.2 (voter_in r.0 r.1)

      filling : IsFilling m IsText last x chain.after leads.term set (map number_of others) highest
      filling = record {
        holds = chain.holds;
        up = chain.is;
        fills = fills_itself last_node chain.after.node leads.term set chain.shadows leads.fills;
        own = votes_itself last_node chain.after.node leads.term.ballot (executed chain.after.node.learner + 1)
            chain.shadows (subst (λ (y : BallotValue). IsVoterAt last_node y (executed chain.after.node.learner + 1))
            (sym leads.ballot) (subst (λ (i : ℕ). IsVoterAt last_node b (i + 1)) (sym after_reach) own_voter));
        voters = voters;
        distinct = k.distinct;
        majority = k.majority;
        within = omega (arith, after_reach, k.candidate_is.within);
        room = k.room;
        pairs = subst (λ (ps : List Pair). (p : Pair) → Contains ps p → p.0 ≤ highest)
            (ap (λ (n : NodeValue). n.learner.pairs) chain.shadows.is)
            (subst (λ (l : LearnerValue). (p : Pair) → Contains l.pairs p → p.0 ≤ highest) (sym leads.learner)
            second_knows.pairs);
        reported = λ q d. offers.reported leads.term leads.fills.leads.leads.current q d;
        sent = λ p d n j. subst (λ (y : BallotValue). HasSentTo last x n (kinds.Accept (vote_in y p)))
            (sym leads.ballot) (offers.offered leads.term leads.fills.leads.leads.current p d n j);
      }

      began_in : BeginsIn x c.node begun_in
      began_in = tick_begins m IsText asks_law first begun_in x c k.up k.candidate_is.due ticks

      abbrev run : Collects m IsText c others first last
      run = record {
        ticked = begun_in;
        ticks = ticks;
        asked = polled;
        asks = polls;
        leads = hears;
      }

      collected : HasCollected m IsText c set others highest first last run
      collected = record {
        asks = λ n d above. began_in.asks n above
            (named_by c.node.learner.whole.roster.sets set n
            (next_set c.node.learner.whole.roster set k.candidate_is.members) (node_named set n d));
        promises = all_sent;
        leader = chain.after;
        term = leads.term;
        ballot = leads.ballot;
        executed_is = after_reach;
        fills = filling;
      }

pub candidate_fills : (m : Meaning) (IsText : List ℕ → Type 0) → DueNodeAsks → PrepareIsPromisedOrRejected m IsText
    → PromisedCandidateFills m IsText → CandidateFillsIn m IsText
candidate_fills m IsText asks_law prepare_law fills_law c set others highest first last k run =
    collected m IsText asks_law prepare_law c set others highest first k run.ticked run.ticks run.asked run.asks
    fills_law last run.leads
