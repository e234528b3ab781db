-- A leader of a world fills one position.
use Rattle.std.proofs.Common.{◌≡◌, ◌∙◌, inl, inr, ℕ, ◌+◌, ◌*◌, ◌<◌, ◌≤◌, true, Some, List, [], ◌∷◌, Contains, nat_le}
use Rattle.std.proofs.Common.{refl, ap, sym, subst, arith}
use Rattle.std.proofs.lemmas.Bool.{cases_Bool, leb-true}
use Rattle.std.specs.List.{list_any}
use Rattle.lk_types.specs.BallotValue.{BallotValue}
use Rattle.lk_types.specs.Ballots.{IsAtMost}
use Rattle.lk_types.specs.declared.genesis.Genesis.{Genesis}
use Rattle.lk_types.specs.declared.member.Member.{Member}
use Rattle.lk_types.specs.declared.vote.Vote.{Vote}
use Rattle.lk_store_format.specs.Values.{HeaderValue}
use Rattle.lk_messages.specs.Grammar.{spelling}
use Rattle.lk_messages.specs.declared.message.Content.{Content}
use Rattle.lk_messages.specs.declared.message.Content.TheVariants as content
use Rattle.lk_messages.specs.declared.message.NodeMessage.{NodeMessage}
use Rattle.lk_messages.specs.declared.message.NodeMessage.TheVariants as kinds
use Rattle.lk_agreement_laws.proofs.Histories.{cons_cases, contains_more}
use Rattle.lk_agreement_laws.specs.Datagrams.{Datagram, said_by}
use Rattle.lk_agreement_laws.specs.declared.party.Party.TheVariants as party
use Rattle.lk_members.specs.Nodes.{nodes_of}
use Rattle.lk_state.specs.Meanings.{Meaning}
use Rattle.lk_acceptor.specs.AcceptorValue.{AcceptorValue}
use Rattle.lk_leader.specs.Terms.{ProposalValue, ReceivedPromise, TermValue, proposal_at}
use Rattle.lk_leader.specs.Values.{has_vote_from}
use Rattle.lk_learner.specs.Learners.{LearnerValue, Pair, alpha, executed}
use Rattle.lk_node_interface.specs.Envelopes.{batch_of}
use Rattle.lk_node.specs.Leavings.{header_of}
use Rattle.lk_node.specs.NodeValue.{NodeValue}
use Rattle.lk_node.specs.Telling.{envelope_to}
use Rattle.lk_progress.proofs.Electing.{named_by}
use Rattle.lk_progress.proofs.Exchanges.{node_named}
use Rattle.lk_progress.proofs.LeadingOn.{Keeps}
use Rattle.lk_progress.proofs.Proposing.{next_set}
use Rattle.lk_progress.specs.Deciding.{acceptances, vote_for_next}
use Rattle.lk_progress.specs.Hearing.{Hears as NodeHears, TakesEach}
use Rattle.lk_progress.specs.LeadingOn.{KeepsMembers}
use Rattle.lk_rebases.specs.Pasts.{IsPlain}
use Rattle.lk_leftovers.proofs.Filling.{found_at}
use Rattle.lk_leftovers.proofs.Offering.{Fares, Offers, Reaches, Tells, all_fare, vote_in}
use Rattle.lk_leftovers.specs.Accepting.{AcceptsAndStays, AcceptsItself, IsVoterAt, IsVoterFrom, LeaderAccepts}
use Rattle.lk_leftovers.specs.Accepting.{VoterAccepts}
use Rattle.lk_leftovers.specs.Filling.{FillsNext, FillsOn, FillsUp, LeaderFillsOn}
use Rattle.lk_replica.specs.ReplicaValue.{ReplicaValue}
use Rattle.lk_sim.specs.WorldStates.{WorldState}
use Rattle.lk_sim_nodes.specs.declared.sim_node.RunState.TheVariants.{Up}
use Rattle.lk_world_progress.proofs.Balloting.{found_has}
use Rattle.lk_world_progress.proofs.Delivering.{EachHeard, HeardIt, among, each_heard, still}
use Rattle.lk_world_progress.proofs.Exchanging.{each_acceptance}
use Rattle.lk_world_progress.proofs.Sending.{sent_as}
use Rattle.lk_world_progress.proofs.Shadowing.{ShadowTakesAll, shadow_in_turn, shadows_itself}
use Rattle.lk_world_progress.proofs.Stepping.{found_header, has_header}
use Rattle.lk_world_progress.specs.Balloting.{HasSentTo}
use Rattle.lk_world_progress.specs.Delivering.{InstallsNothing}
use Rattle.lk_world_leftovers.proofs.Keeping.{fills_itself, fills_snapshot, from_snapshot, votes_itself}
use Rattle.lk_world_leftovers.proofs.Keeping.{voter_snapshot}
use Rattle.lk_world_leftovers.proofs.Telling.{IsBefore, all_tell}
use Rattle.lk_world_leftovers.specs.Filling.{Fills, FillingLeaderOffers, FillsOnIn, IsFilling, IsNextVote}
use Rattle.lk_world_leftovers.specs.Filling.{PairsUpTo, PositionIsFilled, VotesIn, decided_by}

-- what was sent stays sent
pub still_sent : (old new : WorldState ReplicaValue) (n k : ℕ) (y : NodeMessage)
    → ((d : Datagram) → Contains old.sent d → Contains new.sent d) → new.genesis ≡ old.genesis → HasSentTo old n k y
    → HasSentTo new n k y
still_sent old new n k y grows genesis s = subst (λ (g : Genesis). Contains new.sent (record {
  from = party.Node n;
  to = party.Node k;
  bytes = spelling (said_by g n y);
})) (sym genesis) (grows _ s)

one_proposal : (p q : ProposalValue) → Some p ≡ Some q → p ≡ q
one_proposal p q e = cc e

-- where a vote is reported at a position or above it, that is at most the last one
found_above : (i : ℕ) (votes : List Vote) → list_any (λ (x : Vote). nat_le i x.position) votes ≡ true
    → (v : Vote) × Contains votes v × (i ≤ v.position)
found_above i [] e = absurd (cc e)
found_above i (w ∷ votes) e = elim (cases_Bool (nat_le i w.position)) [
  | inl t ↦ (w, (0, omega arith, refl), leb-true i w.position t)
  | inr f ↦
      let rest = found_above i votes (rw f at e) in
      (rest.0, contains_more w votes rest.0 rest.1, rest.2)
]

pub found_vote : (i : ℕ) (qs : List ReceivedPromise) → has_vote_from qs i ≡ true → (last : ℕ)
    → ((q : ReceivedPromise) → Contains qs q → (v : Vote) → Contains q.votes v → v.position ≤ last) → i ≤ last
found_vote i [] e last low = absurd (cc e)
found_vote i (q ∷ qs) e last low =
    elim (cases_Bool (list_any (λ (x : Vote). nat_le i x.position) q.votes)) [
      | inl t ↦
          let v = found_above i q.votes t in
          let at : v.0.position ≤ last = low q (0, omega arith, refl) v.0 v.1 in
          omega (arith, at, v.2)
      | inr f ↦ found_vote i qs (rw f at e) last (λ r c. low r (contains_more q qs r c))
    ]

-- ---- an offer

module _ (m : Meaning) (IsText : List ℕ → Type 0) where
  pub next_offered : (w : WorldState ReplicaValue) (x : ℕ) (leader : ReplicaValue) (t : TermValue) (set : List Member)
      (others : List ℕ) (last : ℕ) → IsFilling m IsText w x leader t set others last → (p : ProposalValue)
      → proposal_at (executed leader.node.learner + 1) t.proposals ≡ Some p
      → (n : ℕ) → Contains (nodes_of set) n
      → HasSentTo w x n (kinds.Accept (vote_for_next leader.node t p.command))
  next_offered w x leader t set others last k p at n c =
      let there = found_at (executed leader.node.learner + 1) t.proposals p at in
      subst (λ (v : Vote). HasSentTo w x n (kinds.Accept v))
      (λ i. record { position = there.1 i; ballot = t.ballot; command = p.command }) (k.sent p there.0 n c)

  pub leader_offers : LeaderFillsOn m IsText → FillingLeaderOffers m IsText
  leader_offers law w x leader t set others last k reported =
      let next : FillsNext m IsText leader.node t set = law leader.node t set k.fills reported in
      record {
        vote = vote_for_next leader.node t next.proposal.command;
        is = record { proposal = next.proposal; there = next.there; is = refl };
        sent = next_offered w x leader t set others last k next.proposal next.there;
      }

-- ---- one position

module _ (m : Meaning) (IsText : List ℕ → Type 0) (leader_law : LeaderAccepts m IsText)
    (fills_law : LeaderFillsOn m IsText) (voter_law : VoterAccepts m IsText) (old new : WorldState ReplicaValue) (x : ℕ)
    (leader : ReplicaValue) (t : TermValue) (set : List Member) (others : List ℕ) (last : ℕ) (v : Vote)
    (k : IsFilling m IsText old x leader t set others last) (next : IsNextVote leader.node t v)
    (run : Fills m IsText x (x ∷ others) v old new) where
  abbrev e : ℕ
  e = executed leader.node.learner

  abbrev accept : Content
  accept = content.Node x (kinds.Accept v)

  position_is : v.position ≡ e + 1
  position_is = ap (λ (y : Vote). y.position) next.is

  ballot_is : v.ballot ≡ t.ballot
  ballot_is = ap (λ (y : Vote). y.ballot) next.is

  -- what is proposed there
  in_list : Contains t.proposals next.proposal × (next.proposal.position ≡ e + 1)
  in_list = found_at (e + 1) t.proposals next.proposal next.there

  reported : has_vote_from t.received (e + 1) ≡ true
  reported = subst (λ (i : ℕ). has_vote_from t.received i ≡ true) in_list.1
      (k.fills.proposed next.proposal in_list.0 (omega (arith, in_list.1))).reported

  low : v.position ≤ last
  low = omega (arith, position_is, next_low)
    where
      next_low : e + 1 ≤ last
      next_low = found_vote (e + 1) t.received reported last k.reported

  plain : KeepsMembers v.command
  plain = subst (λ (y : Vote). KeepsMembers y.command) (sym next.is)
      (k.fills.proposed next.proposal in_list.0 (omega (arith, in_list.1))).keeps

  -- ---- each takes the Accept

  taken : EachHeard m IsText accept (x ∷ others) old run.accepted
  taken = each_heard m IsText accept (x ∷ others) old run.accepted k.holds tt k.distinct run.accepts

  -- another node
  module _ (n : ℕ) (other : Contains others n) where
    apart : n ≡ x → ⊥
    apart is = k.distinct.0 (subst (λ (j : ℕ). Contains others j) is other)

    abbrev voter : VotesIn old t.ballot (e + 1) last n
    voter = k.voters n other

    voting : HeardIt m IsText n accept voter.replica run.accepted
    voting = taken.heard n voter.replica (contains_more x others n other) voter.up

    voter_reaches : last ≤ executed voting.start.learner + 2 * alpha voting.start.learner
    voter_reaches = found_has voter.replica voting.start voting.found
        (λ node. last ≤ executed node.learner + 2 * alpha node.learner) (λ r. r) voter.reaches

    ready_to_vote : IsVoterAt voting.start v.ballot v.position
    ready_to_vote = record {
      from = subst (λ (b : BallotValue). IsVoterFrom voting.start b v.position) (sym ballot_is)
          (subst (λ (i : ℕ). IsVoterFrom voting.start t.ballot i) (sym position_is)
          (found_has voter.replica voting.start voting.found (λ node. IsVoterFrom node t.ballot (e + 1))
          (from_snapshot voter.replica.node t.ballot (e + 1)) voter.votes));
      within = omega (arith, low, voter_reaches);
    }

    voted : AcceptsAndStays voting.start x v voting.after.node voting.out
    voted = voter_law voting.start voting.after.node x v voting.out ready_to_vote voting.takes

    voted_pairs : PairsUpTo voting.after.node last
    voted_pairs = subst (λ (l : LearnerValue). (p : Pair) → Contains l.pairs p → p.0 ≤ last)
        (sym voted.accepts.learner)
        (found_has voter.replica voting.start voting.found (λ node. PairsUpTo node last) (λ r. r) voter.pairs)

    voted_sent : HasSentTo run.accepted n x (kinds.Accepted v)
    voted_sent = sent_as old run.accepted n x voting.start (kinds.Accepted v)
        (found_header voter.replica voting.start voting.found
        ∙ has_header m IsText old k.holds n voter.replica voter.up)
        taken.genesis (voting.sent (envelope_to voting.start (kinds.Accepted v) x) voted.accepts.told)

  -- the leader
  own : HeardIt m IsText x accept leader run.accepted
  own = taken.heard x leader (0, omega arith, refl) k.up

  abbrev start : NodeValue
  start = own.start

  abbrev accepted : NodeValue
  accepted = own.after.node

  header_is : start.header ≡ header_of old.genesis x
  header_is = found_header leader start own.found ∙ has_header m IsText old k.holds x leader k.up

  start_executed : executed start.learner ≡ e
  start_executed = found_has leader start own.found (λ node. executed node.learner ≡ e) (λ q. q) refl

  v_is : v ≡ vote_for_next start t next.proposal.command
  v_is = next.is ∙ (λ i. record {
    position = sym start_executed i + 1;
    ballot = t.ballot;
    command = next.proposal.command;
  })

  accepts : AcceptsItself start t set next.proposal.command accepted own.out
  accepts = leader_law start accepted t set next.proposal.command own.out
      (found_has leader start own.found (λ node. FillsUp node t set) (fills_snapshot leader.node t set) k.fills)
      (subst (λ (i : ℕ). IsVoterAt start t.ballot (i + 1)) (sym start_executed)
      (found_has leader start own.found (λ node. IsVoterAt node t.ballot (e + 1))
      (voter_snapshot leader.node t.ballot (e + 1)) k.own))
      (subst (λ (n : ℕ). NodeHears m IsText start n (kinds.Accept (vote_for_next start t next.proposal.command))
      accepted own.out) (sym (ap (λ (h : HeaderValue). h.node) header_is))
      (subst (λ (y : Vote). NodeHears m IsText start x (kinds.Accept y) accepted own.out) v_is own.takes))

  accepted_learner : accepted.learner ≡ start.learner
  accepted_learner = accepts.accepts.accepts.learner

  accepted_executed : executed accepted.learner ≡ e
  accepted_executed = ap (λ (l : LearnerValue). executed l) accepted_learner ∙ start_executed

  own_sent : HasSentTo run.accepted x x (kinds.Accepted v)
  own_sent = sent_as old run.accepted x x start (kinds.Accepted v) header_is taken.genesis
      (own.sent (envelope_to start (kinds.Accepted v) x)
      (subst (λ (y : Vote). Contains own.out.envelopes (envelope_to start (kinds.Accepted y) x)) (sym v_is)
      (subst (λ (n : ℕ). Contains own.out.envelopes
      (envelope_to start (kinds.Accepted (vote_for_next start t next.proposal.command)) n))
      (ap (λ (h : HeaderValue). h.node) header_is) accepts.accepts.accepts.told)))

  accepted_header : accepted.header ≡ header_of run.accepted.genesis x
  accepted_header = has_header m IsText run.accepted taken.holds x own.after own.is

  -- ---- the leader takes the replies

  start_alpha : alpha start.learner ≡ alpha leader.node.learner
  start_alpha = found_has leader start own.found (λ node. alpha node.learner ≡ alpha leader.node.learner) (λ q. q) refl

  abbrev width : ℕ
  width = alpha accepted.learner

  width_is : alpha accepted.learner ≡ alpha leader.node.learner
  width_is = ap (λ (l : LearnerValue). alpha l) accepted_learner ∙ start_alpha

  some : 1 ≤ alpha accepted.learner
  some = omega (arith, k.own.within, width_is)

  later_voter : IsVoterFrom accepted t.ballot (e + 2)
  later_voter = accepts.accepts.stays (e + 2) (omega (arith, start_executed))

  chain : ShadowTakesAll m IsText x (acceptances (x ∷ others) v) accepted run.accepted new
  chain = shadow_in_turn m IsText x (acceptances (x ∷ others) v) accepted run.accepted new own.after taken.holds own.is
      (shadows_itself accepted some later_voter.near.snapshot)
      (each_acceptance InstallsNothing v (λ n. tt) (x ∷ others))
      (each_acceptance (λ y. (i : ℕ) → IsPlain i y) v (λ n i. tt) (x ∷ others)) run.replies

  abbrev last_node : NodeValue
  last_node = chain.shadow_after

  here : FillsNext m IsText accepted t set
  here = fills_law accepted t set accepts.fills
      (subst (λ (i : ℕ). has_vote_from t.received (i + 1) ≡ true) (sym accepted_executed) reported)

  same_proposal : here.proposal ≡ next.proposal
  same_proposal = one_proposal here.proposal next.proposal
      (sym here.there ∙ ap (λ (i : ℕ). proposal_at (i + 1) t.proposals) accepted_executed ∙ next.there)

  v_for : v ≡ vote_for_next accepted t here.proposal.command
  v_for = next.is ∙ (λ i. record {
    position = sym accepted_executed i + 1;
    ballot = t.ballot;
    command = (sym same_proposal i).command;
  })

  on : FillsOn accepted t set last_node
  on = here.goes_on last_node (x ∷ others) chain.envelopes k.majority
      (subst (λ (y : Vote). TakesEach m IsText (acceptances (x ∷ others) y) accepted last_node chain.envelopes) v_for
      chain.takes)

  -- ---- what that leaves

  abbrev F : Vote → Type 0
  F y = (n : ℕ) → Contains (nodes_of set) n → HasSentTo new x n (kinds.Accept y)

  abbrev G : Vote → Type 0
  G y = y.position ≤ last

  told : (y : Vote)
      → ((n : ℕ) → Contains (nodes_of set) n → Tells accepted.header chain.envelopes (kinds.Accept y) n) → F y
  told y each n c =
      let s : Tells accepted.header chain.envelopes (kinds.Accept y) n = each n c in
      sent_as run.accepted new x n s.node (kinds.Accept y) (s.header ∙ accepted_header) chain.genesis
      (among x chain.envelopes run.accepted new chain.sent (envelope_to s.node (kinds.Accept y) n) s.told)

  grows : (d : Datagram) → Contains old.sent d → Contains new.sent d
  grows d c = still run.accepted new (batch_of x chain.envelopes) chain.sent d (taken.grows d c)

  genesis_is : new.genesis ≡ old.genesis
  genesis_is = chain.genesis ∙ taken.genesis

  one_term : (u : TermValue) → accepted.leader.term ≡ Some u → t ≡ u
  one_term u is = let q : Some t ≡ Some u = sym accepts.fills.leads.leads.current ∙ is in cc q

  offers_before : Offers t.ballot accepted.header accepted.acceptor F G accepted
  offers_before = record {
    header = refl;
    acceptor = refl;
    ballot = λ u is. ap (λ (w : TermValue). w.ballot) (sym (one_term u is));
    offered = λ u is p c n d. still_sent old new x n (kinds.Accept (vote_in t.ballot p)) grows genesis_is
        (k.sent p (subst (λ (w : TermValue). Contains w.proposals p) (sym (one_term u is)) c) n d);
    reported = λ u is q c y d.
        k.reported q (subst (λ (w : TermValue). Contains w.received q) (sym (one_term u is)) c) y d;
  }

  start_pairs : (p : Pair) → Contains start.learner.pairs p → p.0 ≤ last
  start_pairs = found_has leader start own.found (λ node. (p : Pair) → Contains node.learner.pairs p → p.0 ≤ last)
      (λ q. q) k.pairs

  reaches_before : Reaches width last accepted
  reaches_before = record {
    width_is = refl;
    within = omega (arith, accepted_executed, k.within);
    pairs = subst (λ (l : LearnerValue). (p : Pair) → Contains l.pairs p → p.0 ≤ last) (sym accepted_learner)
        start_pairs;
  }

  keeps_before : Keeps set t.ballot t.received accepted
  keeps_before = record {
    term = t;
    current = accepts.fills.leads.leads.current;
    ballot = refl;
    heard = refl;
    some = some;
    fixed = accepts.fills.leads.fixed;
    named = accepts.fills.leads.named;
    keeps = accepts.fills.leads.keeps;
  }

  fares : Fares t.ballot accepted.header accepted.acceptor F G set chain.envelopes told width last some t.received m
      IsText v low plain last_node
  fares = all_fare t.ballot accepted.header accepted.acceptor F G set chain.envelopes told width last some t.received m
      IsText v low plain (x ∷ others) accepted last_node chain.envelopes chain.takes (λ l c. c)
      (record { offers = offers_before; reaches = reaches_before; keeps = (keeps_before, accepts.fills.leads.known) })

  moves : e < executed last_node.learner
  moves = omega (arith, on.moves, accepted_executed)

  abbrev f : ℕ
  f = executed last_node.learner

  own_later : IsVoterAt last_node t.ballot (f + 1)
  own_later = record {
    from = record {
      near = record {
        alpha_is = ap (λ (a : AcceptorValue). a.alpha) fares.offers.acceptor ∙ later_voter.near.alpha_is
            ∙ sym fares.reaches.width_is;
        snapshot = omega (
          arith,
          ap (λ (a : AcceptorValue). a.state.snapshot_position) fares.offers.acceptor,
          later_voter.near.snapshot,
          accepted_executed,
          moves,
        );
        votes = λ y c.
            let kept : y.position ≤ executed accepted.learner + 2 * alpha accepted.learner = later_voter.near.votes y
            (subst (λ (a : AcceptorValue). Contains a.state.votes y) fares.offers.acceptor c) in
            omega (arith, kept, accepted_executed, moves, fares.reaches.width_is);
      };
      ballot = subst (λ (a : AcceptorValue). IsAtMost a.state.promised t.ballot) (sym fares.offers.acceptor)
          later_voter.ballot;
      above = omega arith;
      older = λ y c from. later_voter.older y
          (subst (λ (a : AcceptorValue). Contains a.state.votes y) fares.offers.acceptor c)
          (omega (arith, from, moves));
    };
    within = omega (arith, some, fares.reaches.width_is);
  }

  after_executed : executed chain.after.node.learner ≡ f
  after_executed = sym (ap (λ (n : NodeValue). executed n.learner) chain.shadows.is)

  abbrev room : f < 281474976710656
  room = omega (arith, fares.reaches.within, k.room)

  abbrev later_term : TermValue
  later_term = (on.fills room).0

  term_ballot : later_term.ballot ≡ t.ballot
  term_ballot = (on.fills room).1

  term_received : later_term.received ≡ t.received
  term_received = (on.fills room).2

  later_fills : FillsUp last_node later_term set
  later_fills = (on.fills room).3

  current : last_node.leader.term ≡ Some later_term
  current = later_fills.leads.leads.current

  voters_later : (n : ℕ) → Contains others n
      → VotesIn new later_term.ballot (executed chain.after.node.learner + 1) last n
  voters_later n other = record {
    replica = (voting n other).after;
    up = chain.others n (Up (voting n other).after) (apart n other) (voting n other).is;
    votes = subst
        (λ (b : BallotValue). IsVoterFrom (voting n other).after.node b (executed chain.after.node.learner + 1))
        (ballot_is ∙ sym term_ballot)
        (subst (λ (i : ℕ). IsVoterFrom (voting n other).after.node v.ballot (i + 1)) (sym after_executed)
        ((voted n other).stays (f + 1) (omega (arith, position_is, moves))));
    pairs = voted_pairs n other;
    reaches = subst (λ (l : LearnerValue). last ≤ executed l + 2 * alpha l) (sym (voted n other).accepts.learner)
        (voter_reaches n other);
  }

  filling : IsFilling m IsText new x chain.after later_term set others last
  filling = record {
    holds = chain.holds;
    up = chain.is;
    fills = fills_itself last_node chain.after.node later_term set chain.shadows later_fills;
    own = votes_itself last_node chain.after.node later_term.ballot (executed chain.after.node.learner + 1)
        chain.shadows (subst (λ (b : BallotValue). IsVoterAt last_node b (executed chain.after.node.learner + 1))
        (sym term_ballot)
        (subst (λ (i : ℕ). IsVoterAt last_node t.ballot (i + 1)) (sym after_executed) own_later));
    voters = voters_later;
    distinct = k.distinct;
    majority = k.majority;
    within = omega (arith, after_executed, fares.reaches.within);
    room = k.room;
    pairs = subst (λ (ps : List Pair). (p : Pair) → Contains ps p → p.0 ≤ last)
        (ap (λ (n : NodeValue). n.learner.pairs) chain.shadows.is) fares.reaches.pairs;
    reported = subst (λ (qs : List ReceivedPromise). (q : ReceivedPromise) → Contains qs q → (y : Vote)
        → Contains q.votes y → y.position ≤ last) (sym term_received) k.reported;
    sent = λ p c n d. subst (λ (b : BallotValue). HasSentTo new x n (kinds.Accept (vote_in b p)))
        (sym term_ballot) (fares.offers.offered later_term current p c n d);
  }

  replied : (n : ℕ) → Contains (x ∷ others) n → HasSentTo run.accepted n x (kinds.Accepted v)
  replied n c = elim (cons_cases x others n c) [
    | inl is ↦ subst (λ (j : ℕ). HasSentTo run.accepted j x (kinds.Accepted v)) is own_sent
    | inr other ↦ voted_sent n other
  ]

  -- it has told each other member
  module _ (n : ℕ) (in_set : Contains (nodes_of set) n) (above : 1 ≤ n) (differs : n ≡ x → ⊥) where
    not_own : n ≡ accepted.header.node → ⊥
    not_own is = differs (is ∙ ap (λ (h : HeaderValue). h.node) accepted_header)

    before_telling : IsBefore m IsText v accepted.header e n above not_own accepted
    before_telling = record {
      header = refl;
      reach = accepted_executed;
      named = named_by accepted.learner.whole.roster.sets set n
          (next_set accepted.learner.whole.roster set accepts.fills.leads.leads.members) (node_named set n in_set);
    }

    told_others : HasSentTo new x n (kinds.Decided (decided_by v))
    told_others = elim (all_tell m IsText v accepted.header e n above not_own (x ∷ others) accepted last_node
        chain.envelopes chain.takes before_telling) [
          | inl still ↦ absurd (omega (arith, still, moves))
          | inr s ↦ sent_as run.accepted new x n s.node (kinds.Decided (decided_by v)) (s.header ∙ accepted_header)
              chain.genesis
              (among x chain.envelopes run.accepted new chain.sent
              (envelope_to s.node (kinds.Decided (decided_by v)) n) s.told)
        ]

  filled : FillsOnIn m IsText x leader t set others last v old new run
  filled = record {
    accepts = replied;
    tells = told_others;
    after = chain.after;
    term = later_term;
    ballot = term_ballot;
    received = term_received;
    moves = omega (arith, after_executed, moves);
    fills = filling;
  }

pub position_filled : (m : Meaning) (IsText : List ℕ → Type 0) → LeaderAccepts m IsText → LeaderFillsOn m IsText
    → VoterAccepts m IsText → PositionIsFilled m IsText
position_filled m IsText leader_law fills_law voter_law old new x leader t set others last v k next run =
    filled m IsText leader_law fills_law voter_law old new x leader t set others last v k next run
