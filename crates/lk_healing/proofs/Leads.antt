-- A candidate that has begun a ballot: what is on its way to each node of its majority, and that it leads in the end.
use Rattle.std.proofs.Common.{◌≡◌, ◌∙◌, inl, inr, ℕ, ◌+◌, ◌≤◌, List, [], ◌∷◌, map, Contains, refl, ap, sym}
use Rattle.std.proofs.Common.{subst}
use Rattle.lk_types.specs.BallotValue.{BallotValue}
use Rattle.lk_types.specs.declared.vote.Vote.{Vote}
use Rattle.lk_messages.specs.Values.{PromiseValue}
use Rattle.lk_messages.specs.declared.message.Content.{Content}
use Rattle.lk_messages.specs.declared.message.Content.TheVariants as content
use Rattle.lk_messages.specs.declared.message.Message.{Message}
use Rattle.lk_messages.specs.declared.message.NodeMessage.TheVariants as kinds
use Rattle.lk_agreement_laws.proofs.Histories.{cons_cases}
use Rattle.lk_agreement_laws.specs.Datagrams.{said_by}
use Rattle.lk_members.proofs.Memberships.{majority_lies_within}
use Rattle.lk_state.specs.Meanings.{Meaning}
use Rattle.lk_acceptor.specs.VoteLists.{votes_from}
use Rattle.lk_learner.specs.Learners.{executed}
use Rattle.lk_node.proofs.Nodes.{map_contains, map_has}
use Rattle.lk_node.specs.Beginning.{next_ballot}
use Rattle.lk_progress.proofs.Electing.{named_by}
use Rattle.lk_progress.proofs.Proposing.{next_set}
use Rattle.lk_progress.specs.Electing.{DueNodeAsks, promises}
use Rattle.lk_progress.specs.Exchanges.{prepare_by}
use Rattle.lk_progress.specs.Rejecting.{PrepareIsPromisedOrRejected}
use Rattle.lk_replica.specs.ReplicaValue.{ReplicaValue}
use Rattle.lk_sim.specs.WorldStates.{WorldState}
use Rattle.lk_sim_nodes.specs.SimNodes.{IsUp}
use Rattle.lk_sim_nodes.specs.declared.sim_node.RunState.TheVariants.{Up}
use Rattle.lk_world_progress.specs.Balloting.{BeginsIn, HasSentTo, TickBeginsBallot}
use Rattle.lk_world_progress.specs.Delivering.{AreDistinct, HearsInTurn}
use Rattle.lk_world_progress.specs.Exchanging.{number_of}
use Rattle.lk_world_progress.specs.Stepping.{IsUpAs}
use Rattle.lk_world_leftovers.proofs.Collecting.{Began, began}
use Rattle.lk_world_leftovers.specs.Collecting.{CandidateFillsIn, Collects, IsNearVoter, promise_in}
use Rattle.lk_healing.proofs.Carrying.{is_up}
use Rattle.lk_healing.proofs.Hands.{each_up, sent_to}
use Rattle.lk_healing.proofs.Waits.{some_number}
use Rattle.lk_healing.proofs.Polls.{MayPromise, as_promise, each_of, promises_stand}
use Rattle.lk_healing.specs.Halts.{AreOnTheirWay}
use Rattle.lk_healing.specs.Polls.{HasBegun, HearsAt, LeadsNow, StandAt}
use Rattle.lk_healing.specs.declared.asking.Asking.{Asking}

-- the votes that each of them reports
abbrev reported : ℕ → List ReplicaValue → List (ℕ × List Vote)
reported e rs = map (λ (r : ReplicaValue). (number_of r, votes_from (e + 1) r.node.acceptor.state.votes)) rs

reported_numbers : (e : ℕ) (rs : List ReplicaValue)
    → map (λ (h : ℕ × List Vote). h.0) (reported e rs) ≡ map number_of rs
reported_numbers e [] = refl
reported_numbers e (r ∷ rs) = ap (λ (ns : List ℕ). number_of r ∷ ns) (reported_numbers e rs)

abbrev promised_by : ReplicaValue → ReplicaValue → ℕ × PromiseValue
promised_by c r = (number_of r, promise_in c.node r)

reported_promises : (c : ReplicaValue) (rs : List ReplicaValue)
    → map (as_promise (next_ballot c.node) (executed c.node.learner)) (reported (executed c.node.learner) rs)
    ≡ map (promised_by c) rs
reported_promises c [] = refl
reported_promises c (r ∷ rs) =
    ap (λ (hs : List (ℕ × PromiseValue)). (number_of r, promise_in c.node r) ∷ hs) (reported_promises c rs)

module _ (m : Meaning) (IsText : List ℕ → Type 0) (asks_law : DueNodeAsks)
    (prepare_law : PrepareIsPromisedOrRejected m IsText) (x : ℕ) (nodes : List ℕ) (asking : Asking)
    (old : WorldState ReplicaValue) (k : HasBegun m IsText x nodes asking old) where
  abbrev c : ReplicaValue
  c = k.candidate

  abbrev e : ℕ
  e = executed k.candidate.node.learner

  abbrev b : BallotValue
  b = next_ballot k.candidate.node

  abbrev pub start : Began m IsText asks_law prepare_law k.candidate k.set k.others k.highest k.due k.leftovers old
      k.ticks
  start = began m IsText asks_law prepare_law k.candidate k.set k.others k.highest k.due k.leftovers old k.ticks

  pub start_up : IsUpAs old x start.after
  start_up = subst (λ (n : ℕ). IsUpAs old n start.after) k.number start.is

  -- what it asks
  pub prepare_is : (y : Message) → y ≡ record {
    cluster = asking.cluster;
    content = content.Node x (kinds.Prepare asking.ballot asking.first);
  } → y ≡ said_by old.genesis x (prepare_by k.candidate.node)
  prepare_is y is = is ∙ (λ i. record {
    cluster = k.cluster i;
    content = content.Node x (kinds.Prepare (k.ballot i) (k.first i));
  })

  one_of : (n : ℕ) → Contains nodes n → (r : ReplicaValue) × Contains (c ∷ k.others) r × (number_of r ≡ n)
  one_of n d = map_contains number_of (c ∷ k.others) n (subst (λ (ns : List ℕ). Contains ns n) k.are d)

  apart : (r : ReplicaValue) → Contains k.others r → number_of r ≡ number_of c → ⊥
  apart r d is = k.leftovers.distinct.0
      (subst (λ (i : ℕ). Contains (map number_of k.others) i) is (map_has number_of k.others r d))

  due_up : (r : ReplicaValue) → Contains (c ∷ k.others) r → IsUpAs k.due (number_of r) r
  due_up r d = elim (cons_cases c k.others r d) [
    | inl is ↦ subst (λ (q : ReplicaValue). IsUpAs k.due (number_of q) q) is k.leftovers.up
    | inr other ↦ k.leftovers.others_up r other
  ]

  still_up : (r : ReplicaValue) → Contains (c ∷ k.others) r → IsUp old.sim_nodes (number_of r)
  still_up r d = elim (cons_cases c k.others r d) [
    | inl is ↦ subst (λ (q : ReplicaValue). IsUp old.sim_nodes (number_of q)) is
        (is_up old (number_of c) start.after start.is)
    | inr other ↦ is_up old (number_of r) r (start.stay (number_of r) (Up r) (apart r other)
        (k.leftovers.others_up r other))
  ]

  module _ (tick_law : TickBeginsBallot m IsText) where
    begins_in : BeginsIn (number_of c) c.node old
    begins_in = tick_law k.due old (number_of c) c k.leftovers.up k.leftovers.candidate_is.due k.ticks

    prepare_sent : (n : ℕ) → Contains nodes n → HasSentTo old (number_of c) n (prepare_by c.node)
    prepare_sent n d =
        let r = one_of n d in
        begins_in.asks n
        (subst (λ (i : ℕ). 1 ≤ i) r.2
        (some_number m IsText k.due k.leftovers.holds (number_of r.0) r.0 (due_up r.0 r.1)))
        (named_by c.node.learner.whole.roster.sets k.set n
        (next_set c.node.learner.whole.roster k.set k.leftovers.candidate_is.members)
        (majority_lies_within k.set (map number_of (c ∷ k.others)) n k.leftovers.majority
        (subst (λ (ns : List ℕ). Contains ns n) k.are d)))

    pub prepares_on_their_way : (y : Message) → y ≡ said_by old.genesis x (prepare_by k.candidate.node)
        → AreOnTheirWay old nodes y
    prepares_on_their_way y is n d =
        let r = one_of n d in (
          subst (λ (i : ℕ). IsUp old.sim_nodes i) r.2 (still_up r.0 r.1),
          sent_to old (number_of c) n (prepare_by c.node) y (prepare_sent n d)
              (is ∙ ap (λ (i : ℕ). said_by old.genesis i (prepare_by c.node)) (sym k.number)),
        )

  -- ---- the promises

  may_promise : (r : ReplicaValue) → Contains (c ∷ k.others) r
      → MayPromise m IsText old b e (number_of r) (votes_from (e + 1) r.node.acceptor.state.votes)
  may_promise r d = elim (cons_cases c k.others r d) [
    | inl is ↦ subst (λ (q : ReplicaValue). MayPromise m IsText old b e (number_of q)
        (votes_from (e + 1) q.node.acceptor.state.votes)) is (record {
          replica = start.after;
          up = start.is;
          highest = k.highest;
          stands = start.stands;
          ballot = inr start.has.promised;
        })
    | inr other ↦
        let near : IsNearVoter r.node b e k.highest = k.leftovers.voters r other in
        record {
          replica = r;
          up = start.stay (number_of r) (Up r) (apart r other) (k.leftovers.others_up r other);
          highest = k.highest;
          stands = record { behind = near.behind; near = near.near; left = near.votes; reports = refl };
          ballot = near.ballot;
        }
  ]

  may_promise_each : (h : ℕ × List Vote) → Contains (reported e (c ∷ k.others)) h
      → MayPromise m IsText old b e h.0 h.1
  may_promise_each h d =
      let r = map_contains (λ (q : ReplicaValue). (number_of q, votes_from (e + 1) q.node.acceptor.state.votes))
      (c ∷ k.others) h d in
      subst (λ (g : ℕ × List Vote). MayPromise m IsText old b e g.0 g.1) r.2 (may_promise r.0 r.1)

  module _ (polled : WorldState ReplicaValue) (places : List ℕ)
      (run : HearsAt m IsText (content.Node x (prepare_by k.candidate.node)) nodes places old polled) where
    from_it : HearsAt m IsText (content.Node (number_of c) (prepare_by c.node)) (map number_of (c ∷ k.others)) places
        old polled
    from_it = subst (λ (i : ℕ). HearsAt m IsText (content.Node i (prepare_by c.node)) (map number_of (c ∷ k.others))
        places old polled) (sym k.number)
        (subst (λ (ns : List ℕ). HearsAt m IsText (content.Node x (prepare_by c.node)) ns places old polled) k.are run)

    pub candidate_up : IsUp polled.sim_nodes x
    candidate_up = each_up m IsText (content.Node x (prepare_by k.candidate.node)) nodes old polled
        (each_of m IsText (content.Node x (prepare_by k.candidate.node)) nodes places old polled run) x
        (is_up old x start.after start_up)

    abbrev pub contents : List Content
    contents = promises (map (λ r. (number_of r, promise_in k.candidate.node r)) (k.candidate ∷ k.others))

    pub promises_there : StandAt polled x places contents
    promises_there = subst (λ (i : ℕ). StandAt polled i places contents) k.number
        (subst (λ (hs : List (ℕ × PromiseValue)). StandAt polled (number_of c) places (promises hs))
        (reported_promises c (c ∷ k.others))
        (promises_stand m IsText (number_of c) e b (reported e (c ∷ k.others)) places old polled k.ticks.after
        (subst AreDistinct (sym (reported_numbers e (c ∷ k.others))) k.leftovers.distinct) may_promise_each
        (subst (λ (ns : List ℕ). HearsAt m IsText (content.Node (number_of c) (prepare_by c.node)) ns places old polled)
        (sym (reported_numbers e (c ∷ k.others))) from_it)))

    pub leads_now : CandidateFillsIn m IsText → (last : WorldState ReplicaValue)
        → HearsInTurn m IsText x contents polled last → LeadsNow m IsText x nodes asking old last k
    leads_now law last turn = record {
      run = collects;
      has = law c k.set k.others k.highest k.due last k.leftovers collects;
    }
      where
        collects : Collects m IsText k.candidate k.others k.due last
        collects = record {
          ticked = old;
          ticks = k.ticks;
          asked = polled;
          asks = each_of m IsText (content.Node (number_of c) (prepare_by c.node)) (map number_of (c ∷ k.others)) places
              old polled from_it;
          leads = subst (λ (i : ℕ). HearsInTurn m IsText i contents polled last) (sym k.number) turn;
        }
