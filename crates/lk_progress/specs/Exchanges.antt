-- One exchange in a quiet cluster, from a tick to an answer. Quiet: nobody in it has executed more than the candidate,
-- or keeps a vote above that. Of the members of the candidate's next position a majority, with the candidate itself,
-- takes what it sends, and it takes what they reply.
use Rattle.std.specs.Prelude.{◌≡◌, ℕ, ◌+◌, ◌*◌, ◌<◌, ◌≤◌, true, false, List, [], ◌∷◌, map, Contains}
use Rattle.lk_types.specs.BallotValue.{BallotValue}
use Rattle.lk_types.specs.Ballots.{IsAtMost}
use Rattle.lk_types.specs.declared.member.Member.{Member}
use Rattle.lk_types.specs.declared.vote.Vote.{Vote}
use Rattle.lk_messages.specs.Values.{PromiseValue}
use Rattle.lk_messages.specs.declared.message.Content.TheVariants as content
use Rattle.lk_messages.specs.declared.message.NodeMessage.{NodeMessage}
use Rattle.lk_messages.specs.declared.message.NodeMessage.TheVariants as kinds
use Rattle.lk_members.specs.Effects.{RequestValue, Request}
use Rattle.lk_members.specs.Majorities.{IsMajority}
use Rattle.lk_members.specs.Nodes.{nodes_of}
use Rattle.lk_state.specs.Meanings.{Meaning}
use Rattle.lk_state.specs.Sessions.{session_of, is_new}
use Rattle.lk_leader.specs.Proposing.{AreMembersAt}
use Rattle.lk_leader.specs.Values.{is_changing_at}
use Rattle.lk_learner.specs.Learners.{executed, alpha}
use Rattle.lk_node_interface.specs.Envelopes.{EnvelopeValue}
use Rattle.lk_node_interface.specs.Outboxes.{OutboxValue}
use Rattle.lk_node.specs.Beginning.{next_ballot}
use Rattle.lk_node.specs.Executing.{NothingToRun}
use Rattle.lk_node.specs.Nearness.{AreNear}
use Rattle.lk_node.specs.NodeValue.{NodeValue}
use Rattle.lk_node.specs.Reminding.{Ticks}
use Rattle.lk_node.specs.Telling.{envelope_to}
use Rattle.lk_progress.specs.Answering.{answer_envelope}
use Rattle.lk_progress.specs.Deciding.{acceptances}
use Rattle.lk_progress.specs.Electing.{IsDue, promises}
use Rattle.lk_progress.specs.Hearing.{Hears, Takes, TakesEach}

-- ---- who takes part

-- the acceptor keeps no vote above this position
abbrev pub HasNoVoteAbove : NodeValue → ℕ → Type 0
HasNoVoteAbove node e = (v : Vote) → Contains node.acceptor.state.votes v → v.position ≤ e

-- the node is due to begin a ballot, the set is that of its next position, nothing waits, nothing is left to execute,
-- and each change of members is in effect there
pub record IsQuietCandidate (node : NodeValue) (set : List Member) : Type 0 where
  pub due : IsDue node
  pub members : AreMembersAt node.learner.whole.roster (executed node.learner + 1) set
  pub waiting : node.leader.waiting ≡ []
  pub known : NothingToRun node
  pub unchanged : is_changing_at node.learner.whole.roster (executed node.learner + 1) ≡ false
  pub near : AreNear node.acceptor node.learner
  pub votes : HasNoVoteAbove node (executed node.learner)

-- another node has promised no ballot above this one, and has executed at most so many positions, and at least almost
-- as many
pub record IsQuietVoter (node : NodeValue) (b : BallotValue) (e : ℕ) : Type 0 where
  pub near : AreNear node.acceptor node.learner
  pub ballot : IsAtMost node.acceptor.state.promised b
  pub behind : executed node.learner ≤ e
  pub within : e < executed node.learner + 2 * alpha node.learner
  pub votes : HasNoVoteAbove node e

-- ---- what they send one another

-- the candidate asks for promises from its next position on
abbrev pub prepare_by : NodeValue → NodeMessage
prepare_by candidate = kinds.Prepare (next_ballot candidate) (executed candidate.learner + 1)

-- a promise that reports no vote
abbrev pub promise_to : NodeValue → PromiseValue
promise_to candidate =
    record { ballot = next_ballot candidate; first = executed candidate.learner + 1; votes = [] }

-- a vote for the request at the next position
abbrev pub vote_by : NodeValue → RequestValue → Vote
vote_by candidate r =
    record { position = executed candidate.learner + 1; ballot = next_ballot candidate; command = Request r }

-- another node takes the candidate's Prepare, and then its Accept
pub record Votes (m : Meaning) (IsText : List ℕ → Type 0) (candidate : NodeValue) (r : RequestValue)
    (n : ℕ) : Type 0 where
  pub first : NodeValue
  pub quiet : IsQuietVoter first (next_ballot candidate) (executed candidate.learner)
  pub second : NodeValue
  pub promising : OutboxValue
  pub promises : Hears m IsText first candidate.header.node (prepare_by candidate) second promising
  pub third : NodeValue
  pub accepting : OutboxValue
  pub accepts : Hears m IsText second candidate.header.node (kinds.Accept (vote_by candidate r)) third accepting

-- the candidate takes a tick, its own Prepare, its own promise and those of the others, the request, its own Accept,
-- its own reply to that and those of the others
pub record Exchanges (m : Meaning) (IsText : List ℕ → Type 0) (candidate : NodeValue) (r : RequestValue)
    (others : List ℕ) : Type 0 where
  pub votes : (n : ℕ) → Contains others n → Votes m IsText candidate r n
  pub first : NodeValue
  pub asking : OutboxValue
  pub ticks : Ticks candidate first asking
  pub second : NodeValue
  pub promising : OutboxValue
  pub promises_itself : Hears m IsText first candidate.header.node (prepare_by candidate) second promising
  pub third : NodeValue
  pub leading : List EnvelopeValue
  pub leads : TakesEach m IsText (promises (map (λ n. (n, promise_to candidate)) (candidate.header.node ∷ others)))
      second third leading
  pub fourth : NodeValue
  pub proposing : OutboxValue
  pub proposes : Takes m IsText third (content.Request r) fourth proposing
  pub fifth : NodeValue
  pub accepting : OutboxValue
  pub accepts_itself : Hears m IsText fourth candidate.header.node (kinds.Accept (vote_by candidate r)) fifth accepting
  pub sixth : NodeValue
  pub answering : List EnvelopeValue
  pub answers : TakesEach m IsText (acceptances (candidate.header.node ∷ others) (vote_by candidate r)) fifth sixth
      answering

-- ---- the law

-- each datagram that is taken was sent in a step before, and the last ones answer the request
pub record Succeeds (m : Meaning) (IsText : List ℕ → Type 0) (candidate : NodeValue) (set : List Member)
    (r : RequestValue) (others : List ℕ) (k : Exchanges m IsText candidate r others) : Type 0 where
  pub asks : (n : ℕ) → Contains (nodes_of set) n → 1 ≤ n
      → Contains k.asking.envelopes (envelope_to candidate (prepare_by candidate) n)
  pub promises_itself : Contains k.promising.envelopes
      (envelope_to k.first (kinds.Promise (promise_to candidate)) candidate.header.node)
  pub promises : (n : ℕ) (other : Contains others n) → Contains (k.votes n other).promising.envelopes
      (envelope_to (k.votes n other).first (kinds.Promise (promise_to candidate)) candidate.header.node)
  pub proposes : (n : ℕ) → Contains (nodes_of set) n
      → Contains k.proposing.envelopes (envelope_to k.third (kinds.Accept (vote_by candidate r)) n)
  pub accepts_itself : Contains k.accepting.envelopes
      (envelope_to k.fourth (kinds.Accepted (vote_by candidate r)) candidate.header.node)
  pub accepts : (n : ℕ) (other : Contains others n) → Contains (k.votes n other).accepting.envelopes
      (envelope_to (k.votes n other).second (kinds.Accepted (vote_by candidate r)) candidate.header.node)
  pub answers : Contains k.answering (answer_envelope m candidate r)

-- A quiet candidate with a majority of quiet nodes answers a fresh request after one exchange with them.
abbrev pub QuietMajorityAnswers : Meaning → (List ℕ → Type 0) → Type 0
QuietMajorityAnswers m IsText = (candidate : NodeValue) (set : List Member) (r : RequestValue) (others : List ℕ)
    → IsQuietCandidate candidate set → IsMajority (candidate.header.node ∷ others) set
    → is_new (session_of r.client candidate.learner.whole.sessions) r.number ≡ true
    → (k : Exchanges m IsText candidate r others) → Succeeds m IsText candidate set r others k
