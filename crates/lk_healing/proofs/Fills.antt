-- A leader fills its next position: what is on its way meanwhile, and what that leaves.
use Rattle.std.proofs.Common.{◌≡◌, ◌∙◌, inl, inr, ℕ, ◌+◌, ◌*◌, ◌≤◌, true, List, ◌∷◌, Contains, refl, ap, sym}
use Rattle.std.proofs.Common.{subst, arith}
use Rattle.lk_types.specs.BallotValue.{BallotValue}
use Rattle.lk_types.specs.declared.member.Member.{Member}
use Rattle.lk_types.specs.declared.vote.Vote.{Vote}
use Rattle.lk_store_format.specs.Values.{HeaderValue}
use Rattle.lk_messages.specs.declared.message.Content.{Content}
use Rattle.lk_messages.specs.declared.message.Content.TheVariants as content
use Rattle.lk_messages.specs.declared.message.NodeMessage.TheVariants as kinds
use Rattle.lk_agreement_laws.proofs.Histories.{cons_cases, contains_more}
use Rattle.lk_state.specs.Meanings.{Meaning}
use Rattle.lk_leader.specs.Terms.{TermValue}
use Rattle.lk_leader.specs.Values.{has_vote_from}
use Rattle.lk_learner.specs.Learners.{LearnerValue, alpha, executed}
use Rattle.lk_node.specs.Leavings.{header_of}
use Rattle.lk_node.specs.NodeValue.{NodeValue}
use Rattle.lk_node.specs.Telling.{envelope_to}
use Rattle.lk_progress.specs.Deciding.{vote_for_next}
use Rattle.lk_progress.specs.Hearing.{Hears as NodeHears}
use Rattle.lk_leftovers.proofs.Filling.{found_at}
use Rattle.lk_leftovers.specs.Accepting.{AcceptsAndStays, AcceptsItself, IsVoterAt, IsVoterFrom, LeaderAccepts}
use Rattle.lk_leftovers.specs.Accepting.{VoterAccepts}
use Rattle.lk_leftovers.specs.Filling.{FillsUp}
use Rattle.lk_replica.specs.ReplicaValue.{ReplicaValue}
use Rattle.lk_sim.specs.WorldStates.{WorldState}
use Rattle.lk_world_progress.proofs.Balloting.{found_has}
use Rattle.lk_world_progress.proofs.Delivering.{EachHeard, HeardIt, each_heard}
use Rattle.lk_world_progress.proofs.Sending.{sent_as}
use Rattle.lk_world_progress.proofs.Stepping.{found_header, has_header}
use Rattle.lk_world_progress.specs.Balloting.{HasSentTo}
use Rattle.lk_world_progress.specs.Delivering.{HearsEach}
use Rattle.lk_world_leftovers.proofs.Filling.{found_vote}
use Rattle.lk_world_leftovers.proofs.Keeping.{fills_snapshot, from_snapshot, voter_snapshot}
use Rattle.lk_world_leftovers.specs.Filling.{IsFilling, IsNextVote, VotesIn}

module _ (m : Meaning) (IsText : List ℕ → Type 0) (leader_law : LeaderAccepts m IsText)
    (voter_law : VoterAccepts m IsText) (old accepted_in : WorldState ReplicaValue) (x : ℕ) (leader : ReplicaValue)
    (t : TermValue) (set : List Member) (others : List ℕ) (last : ℕ) (v : Vote)
    (k : IsFilling m IsText old x leader t set others last) (next : IsNextVote leader.node t v)
    (accepts : HearsEach m IsText (content.Node x (kinds.Accept v)) (x ∷ others) old accepted_in) where
  abbrev e : ℕ
  e = executed leader.node.learner

  abbrev accept : Content
  accept = content.Node x (kinds.Accept v)

  position_is : v.position ≡ e + 1
  position_is = ap (λ (y : Vote). y.position) next.is

  ballot_is : v.ballot ≡ t.ballot
  ballot_is = ap (λ (y : Vote). y.ballot) next.is

  in_list : Contains t.proposals next.proposal × (next.proposal.position ≡ e + 1)
  in_list = found_at (e + 1) t.proposals next.proposal next.there

  low : v.position ≤ last
  low = omega (arith, position_is, next_low)
    where
      next_low : e + 1 ≤ last
      next_low = found_vote (e + 1) t.received
          (subst (λ (i : ℕ). has_vote_from t.received i ≡ true) in_list.1
          (k.fills.proposed next.proposal in_list.0 (omega (arith, in_list.1))).reported) last k.reported

  pub taken : EachHeard m IsText (content.Node x (kinds.Accept v)) (x ∷ others) old accepted_in
  taken = each_heard m IsText accept (x ∷ others) old accepted_in k.holds tt k.distinct accepts

  -- another node
  module _ (n : ℕ) (other : Contains others n) where
    abbrev voter : VotesIn old t.ballot (e + 1) last n
    voter = k.voters n other

    pub voting : HeardIt m IsText n (content.Node x (kinds.Accept v)) (k.voters n other).replica accepted_in
    voting = taken.heard n voter.replica (contains_more x others n other) voter.up

    ready_to_vote : IsVoterAt voting.start v.ballot v.position
    ready_to_vote = record {
      from = subst (λ (b : BallotValue). IsVoterFrom voting.start b v.position) (sym ballot_is)
          (subst (λ (i : ℕ). IsVoterFrom voting.start t.ballot i) (sym position_is)
          (found_has voter.replica voting.start voting.found (λ node. IsVoterFrom node t.ballot (e + 1))
          (from_snapshot voter.replica.node t.ballot (e + 1)) voter.votes));
      within = omega (
        arith,
        low,
        found_has voter.replica voting.start voting.found
            (λ node. last ≤ executed node.learner + 2 * alpha node.learner) (λ r. r) voter.reaches,
      );
    }

    voted : AcceptsAndStays voting.start x v voting.after.node voting.out
    voted = voter_law voting.start voting.after.node x v voting.out ready_to_vote voting.takes

    -- it has executed what it had
    pub voted_reach : executed voting.after.node.learner ≡ executed (k.voters n other).replica.node.learner
    voted_reach = ap (λ (l : LearnerValue). executed l) voted.accepts.learner
        ∙ found_has voter.replica voting.start voting.found
        (λ node. executed node.learner ≡ executed voter.replica.node.learner) (λ q. q) refl

    voted_sent : HasSentTo accepted_in n x (kinds.Accepted v)
    voted_sent = sent_as old accepted_in n x voting.start (kinds.Accepted v)
        (found_header voter.replica voting.start voting.found
        ∙ has_header m IsText old k.holds n voter.replica voter.up)
        taken.genesis (voting.sent (envelope_to voting.start (kinds.Accepted v) x) voted.accepts.told)

  -- the leader
  pub own : HeardIt m IsText x (content.Node x (kinds.Accept v)) leader accepted_in
  own = taken.heard x leader (0, omega arith, refl) k.up

  abbrev start : NodeValue
  start = own.start

  header_is : start.header ≡ header_of old.genesis x
  header_is = found_header leader start own.found ∙ has_header m IsText old k.holds x leader k.up

  start_executed : executed start.learner ≡ e
  start_executed = found_has leader start own.found (λ node. executed node.learner ≡ e) (λ q. q) refl

  v_is : v ≡ vote_for_next start t next.proposal.command
  v_is = next.is ∙ (λ i. record {
    position = sym start_executed i + 1;
    ballot = t.ballot;
    command = next.proposal.command;
  })

  itself : AcceptsItself start t set next.proposal.command own.after.node own.out
  itself = leader_law start own.after.node t set next.proposal.command own.out
      (found_has leader start own.found (λ node. FillsUp node t set) (fills_snapshot leader.node t set) k.fills)
      (subst (λ (i : ℕ). IsVoterAt start t.ballot (i + 1)) (sym start_executed)
      (found_has leader start own.found (λ node. IsVoterAt node t.ballot (e + 1))
      (voter_snapshot leader.node t.ballot (e + 1)) k.own))
      (subst (λ (n : ℕ). NodeHears m IsText start n (kinds.Accept (vote_for_next start t next.proposal.command))
      own.after.node own.out) (sym (ap (λ (h : HeaderValue). h.node) header_is))
      (subst (λ (y : Vote). NodeHears m IsText start x (kinds.Accept y) own.after.node own.out) v_is own.takes))

  pub own_reach : executed own.after.node.learner ≡ executed leader.node.learner
  own_reach = ap (λ (l : LearnerValue). executed l) itself.accepts.accepts.learner ∙ start_executed

  own_sent : HasSentTo accepted_in x x (kinds.Accepted v)
  own_sent = sent_as old accepted_in x x start (kinds.Accepted v) header_is taken.genesis
      (own.sent (envelope_to start (kinds.Accepted v) x)
      (subst (λ (y : Vote). Contains own.out.envelopes (envelope_to start (kinds.Accepted y) x)) (sym v_is)
      (subst (λ (n : ℕ). Contains own.out.envelopes
      (envelope_to start (kinds.Accepted (vote_for_next start t next.proposal.command)) n))
      (ap (λ (h : HeaderValue). h.node) header_is) itself.accepts.accepts.told)))

  -- each has replied
  pub replied_now : (n : ℕ) → Contains (x ∷ others) n → HasSentTo accepted_in n x (kinds.Accepted v)
  replied_now n c = elim (cons_cases x others n c) [
    | inl is ↦ subst (λ (j : ℕ). HasSentTo accepted_in j x (kinds.Accepted v)) is own_sent
    | inr other ↦ voted_sent n other
  ]
