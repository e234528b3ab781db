-- How a leader whose quorum is near answers a request: it proposes it at once, and answers it as soon as a majority of
-- the position's members has accepted it.
use Rattle.std.specs.Prelude.{◌≡◌, ℕ, ◌+◌, ◌*◌, ◌<◌, ◌≤◌, true, Some, List, [], map, Contains}
use Rattle.lk_types.specs.Ballots.{IsAtMost}
use Rattle.lk_types.specs.Limits.{max_count}
use Rattle.lk_types.specs.declared.member.Member.{Member}
use Rattle.lk_types.specs.declared.vote.Vote.{Vote}
use Rattle.lk_messages.specs.declared.message.Content.{Content}
use Rattle.lk_messages.specs.declared.message.Content.TheVariants as content
use Rattle.lk_messages.specs.declared.message.NodeMessage.TheVariants as kinds
use Rattle.lk_members.specs.Effects.{Command, RequestValue, Request}
use Rattle.lk_members.specs.Majorities.{IsMajority}
use Rattle.lk_members.specs.Nodes.{nodes_of}
use Rattle.lk_state.specs.Meanings.{Meaning}
use Rattle.lk_state.specs.Sessions.{session_of, is_new}
use Rattle.lk_leader.specs.Acceptances.{members_among}
use Rattle.lk_leader.specs.Proposing.{AreMembersAt, promisers}
use Rattle.lk_leader.specs.Terms.{ProposalValue, TermValue, proposal_at}
use Rattle.lk_leader.specs.Values.{promised_at, received_at}
use Rattle.lk_learner.specs.Learners.{executed, alpha}
use Rattle.lk_node_interface.specs.Envelopes.{EnvelopeValue}
use Rattle.lk_node_interface.specs.Outboxes.{OutboxValue}
use Rattle.lk_node.specs.Executing.{NothingToRun}
use Rattle.lk_node.specs.NodeValue.{NodeValue}
use Rattle.lk_node.specs.Nearness.{AreNear}
use Rattle.lk_node.specs.Telling.{envelope_to}
use Rattle.lk_progress.specs.Answering.{WaitsFresh, answer_envelope}
use Rattle.lk_progress.specs.Hearing.{Hears, Takes, TakesEach}
use Rattle.lk_progress.specs.Rejecting.{Accepts, AgreesWithKept}

-- ---- a request is proposed

-- The node leads in this term and is idle: the set is that of its next position, a majority of it has promised and
-- reports no vote there, nothing that is proposed is left to execute, nothing waits, and a position is left.
pub record IsReady (node : NodeValue) (t : TermValue) (set : List Member) : Type 0 where
  pub current : node.leader.term ≡ Some t
  pub members : AreMembersAt node.learner.whole.roster (executed node.learner + 1) set
  pub promised : IsMajority (promisers set (executed node.learner + 1) t.received) set
  pub unreported : promised_at (executed node.learner + 1) (received_at set (executed node.learner + 1) t.received)
      ≡ []
  pub proposed : (p : ProposalValue) → Contains t.proposals p → p.position ≤ executed node.learner
  pub waiting : node.leader.waiting ≡ []
  pub known : NothingToRun node
  pub room : executed node.learner < max_count

-- the vote for the command at the next position, in the term's ballot
abbrev pub vote_for_next : NodeValue → TermValue → Command → Vote
vote_for_next node t v = record { position = executed node.learner + 1; ballot = t.ballot; command = v }

-- the command is proposed at the next position, which has these members, and these of them have been heard to accept
-- it, which are no majority; nothing is left to execute
pub record HasProposed (node : NodeValue) (t : TermValue) (set : List Member) (v : Command)
    (accepted : List ℕ) : Type 0 where
  pub current : node.leader.term ≡ Some t
  pub members : AreMembersAt node.learner.whole.roster (executed node.learner + 1) set
  pub proposal : proposal_at (executed node.learner + 1) t.proposals
      ≡ Some (record { position = executed node.learner + 1; command = v; accepted = accepted })
  pub few : IsMajority (members_among set accepted) set → ⊥
  pub known : NothingToRun node

-- after the step with a fresh request each member of the next position is sent an Accept of it, and the node waits for
-- their replies; nothing but its leader changes
pub record AsksMembers (old : NodeValue) (t : TermValue) (set : List Member) (r : RequestValue) (new : NodeValue)
    (out : OutboxValue) : Type 0 where
  pub told : (n : ℕ) → Contains (nodes_of set) n
      → Contains out.envelopes (envelope_to old (kinds.Accept (vote_for_next old t (Request r))) n)
  pub term : TermValue
  pub vote : vote_for_next new term (Request r) ≡ vote_for_next old t (Request r)
  pub proposed : HasProposed new term set (Request r) []
  pub waits : WaitsFresh new r
  pub acceptor : new.acceptor ≡ old.acceptor
  pub learner : new.learner ≡ old.learner
  pub header : new.header ≡ old.header

abbrev pub FreshRequestIsProposed : Meaning → (List ℕ → Type 0) → Type 0
FreshRequestIsProposed m IsText = (old new : NodeValue) (t : TermValue) (set : List Member) (r : RequestValue)
    (out : OutboxValue) → IsReady old t set
    → is_new (session_of r.client old.learner.whole.sessions) r.number ≡ true
    → Takes m IsText old (content.Request r) new out → AsksMembers old t set r new out

-- ---- it is accepted

-- the node is near the vote: it has promised no greater ballot, the position is one of its next 2 alpha, and it keeps
-- no other vote of the ballot there
pub record IsNearVote (node : NodeValue) (x : Vote) : Type 0 where
  pub near : AreNear node.acceptor node.learner
  pub ballot : IsAtMost node.acceptor.state.promised x.ballot
  pub above : executed node.learner < x.position
  pub within : x.position ≤ executed node.learner + 2 * alpha node.learner
  pub agrees : AgreesWithKept node x

abbrev pub NearNodeAccepts : Meaning → (List ℕ → Type 0) → Type 0
NearNodeAccepts m IsText = (old new : NodeValue) (from : ℕ) (x : Vote) (out : OutboxValue) → IsNearVote old x
    → Hears m IsText old from (kinds.Accept x) new out → Accepts old from x new out

-- ---- it is executed, and answered

-- the datagrams by which these nodes reply that they have accepted
abbrev pub acceptances : List ℕ → Vote → List Content
acceptances nodes x = map (λ n. content.Node n (kinds.Accepted x)) nodes

-- a leader to which a majority of the position's members has replied, in any order, has executed what it proposed
abbrev pub AcceptedCommandIsExecuted : Meaning → (List ℕ → Type 0) → Type 0
AcceptedCommandIsExecuted m IsText = (old new : NodeValue) (t : TermValue) (set : List Member) (v : Command)
    (accepted voters : List ℕ) (envelopes : List EnvelopeValue) → HasProposed old t set v accepted
    → IsMajority voters set
    → TakesEach m IsText (acceptances voters (vote_for_next old t v)) old new envelopes
    → executed old.learner < executed new.learner

-- if it is a request that waits, one of these steps answers the client
abbrev pub AcceptedRequestIsAnswered : Meaning → (List ℕ → Type 0) → Type 0
AcceptedRequestIsAnswered m IsText = (old new : NodeValue) (t : TermValue) (set : List Member) (r : RequestValue)
    (accepted voters : List ℕ) (envelopes : List EnvelopeValue) → HasProposed old t set (Request r) accepted
    → WaitsFresh old r
    → IsMajority voters set
    → TakesEach m IsText (acceptances voters (vote_for_next old t (Request r))) old new envelopes
    → Contains envelopes (answer_envelope m old r)
