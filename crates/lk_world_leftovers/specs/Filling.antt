-- A leader of a world to which votes of earlier ballots are reported fills one position after another. The members do
-- not change.
use Rattle.std.specs.Prelude.{◌≡◌, ℕ, ◌+◌, ◌*◌, ◌<◌, ◌≤◌, true, Some, List, [], ◌∷◌, Contains}
use Rattle.lk_types.specs.BallotValue.{BallotValue}
use Rattle.lk_types.specs.Limits.{max_count}
use Rattle.lk_types.specs.declared.member.Member.{Member}
use Rattle.lk_types.specs.declared.vote.Vote.{Vote}
use Rattle.lk_messages.specs.Values.{DecidedValue}
use Rattle.lk_messages.specs.declared.message.Content.TheVariants as content
use Rattle.lk_messages.specs.declared.message.NodeMessage.TheVariants as kinds
use Rattle.lk_members.specs.Majorities.{IsMajority}
use Rattle.lk_members.specs.Nodes.{nodes_of}
use Rattle.lk_state.specs.Meanings.{Meaning}
use Rattle.lk_leader.specs.Terms.{ProposalValue, ReceivedPromise, TermValue, proposal_at}
use Rattle.lk_leader.specs.Values.{has_vote_from}
use Rattle.lk_learner.specs.Learners.{Pair, executed, alpha}
use Rattle.lk_node.specs.NodeValue.{NodeValue}
use Rattle.lk_progress.specs.Deciding.{acceptances, vote_for_next}
use Rattle.lk_leftovers.specs.Accepting.{IsVoterAt, IsVoterFrom}
use Rattle.lk_leftovers.specs.Filling.{FillsUp}
use Rattle.lk_replica.specs.ReplicaValue.{ReplicaValue}
use Rattle.lk_sim.specs.WorldStates.{WorldState}
use Rattle.lk_world_progress.specs.Balloting.{HasSentTo}
use Rattle.lk_world_progress.specs.Delivering.{AreDistinct, HearsEach, HearsInTurn}
use Rattle.lk_world_progress.specs.Stepping.{Holds, IsUpAs}

-- ---- who takes part

-- the node knows no pair above the last position
abbrev pub PairsUpTo : NodeValue → ℕ → Type 0
PairsUpTo node last = (p : Pair) → Contains node.learner.pairs p → p.0 ≤ last

-- The node is up, and a voter of the ballot from the position on. It knows no pair above the last position, and each
-- position up to that is one of its next 2 alpha.
pub record VotesIn (w : WorldState ReplicaValue) (b : BallotValue) (i last : ℕ) (n : ℕ) : Type 0 where
  pub replica : ReplicaValue
  pub up : IsUpAs w n replica
  pub votes : IsVoterFrom replica.node b i
  pub pairs : PairsUpTo replica.node last
  pub reaches : last ≤ executed replica.node.learner + 2 * alpha replica.node.learner

-- the vote for what the term has proposed
abbrev pub vote_of : TermValue → ProposalValue → Vote
vote_of t p = record { position = p.position; ballot = t.ballot; command = p.command }

-- The leader is up and fills up in this term, and so do these others vote, which with it are a majority of the set. No
-- vote that is reported to it, and no pair that it knows, is above the last position, and it has sent each member an
-- Accept of all that it has proposed.
pub record IsFilling (m : Meaning) (IsText : List ℕ → Type 0) (w : WorldState ReplicaValue) (x : ℕ)
    (leader : ReplicaValue) (t : TermValue) (set : List Member) (others : List ℕ) (last : ℕ) : Type 0 where
  pub holds : Holds m IsText w
  pub up : IsUpAs w x leader
  pub fills : FillsUp leader.node t set
  pub own : IsVoterAt leader.node t.ballot (executed leader.node.learner + 1)
  pub voters : (n : ℕ) → Contains others n → VotesIn w t.ballot (executed leader.node.learner + 1) last n
  pub distinct : AreDistinct (x ∷ others)
  pub majority : IsMajority (x ∷ others) set
  pub within : executed leader.node.learner ≤ last
  pub room : last < max_count
  pub pairs : PairsUpTo leader.node last
  pub reported : (q : ReceivedPromise) → Contains t.received q → (v : Vote) → Contains q.votes v → v.position ≤ last
  pub sent : (p : ProposalValue) → Contains t.proposals p → (n : ℕ) → Contains (nodes_of set) n
      → HasSentTo w x n (kinds.Accept (vote_of t p))

-- ---- one position

-- the vote is for what the node has proposed in this term at its next position
pub record IsNextVote (node : NodeValue) (t : TermValue) (v : Vote) : Type 0 where
  pub proposal : ProposalValue
  pub there : proposal_at (executed node.learner + 1) t.proposals ≡ Some proposal
  pub is : v ≡ vote_for_next node t proposal.command

-- A leader to which a vote is reported at its next position or above it has proposed a command there, and has sent each
-- member an Accept of it.
pub record OffersNext (w : WorldState ReplicaValue) (x : ℕ) (leader : ReplicaValue) (t : TermValue)
    (set : List Member) : Type 0 where
  pub vote : Vote
  pub is : IsNextVote leader.node t vote
  pub sent : (n : ℕ) → Contains (nodes_of set) n → HasSentTo w x n (kinds.Accept vote)

abbrev pub FillingLeaderOffers : Meaning → (List ℕ → Type 0) → Type 0
FillingLeaderOffers m IsText = (w : WorldState ReplicaValue) (x : ℕ) (leader : ReplicaValue) (t : TermValue)
    (set : List Member) (others : List ℕ) (last : ℕ) → IsFilling m IsText w x leader t set others last
    → has_vote_from t.received (executed leader.node.learner + 1) ≡ true → OffersNext w x leader t set

-- each of these nodes takes the leader's Accept of the vote, and the leader takes their replies. Nothing else happens
-- meanwhile, but any of these nodes may have a rebase due
pub record Fills (m : Meaning) (IsText : List ℕ → Type 0) (x : ℕ) (nodes : List ℕ) (v : Vote)
    (old new : WorldState ReplicaValue) : Type 0 where
  pub accepted : WorldState ReplicaValue
  pub accepts : HearsEach m IsText (content.Node x (kinds.Accept v)) nodes old accepted
  pub replies : HearsInTurn m IsText x (acceptances nodes v) accepted new

-- that the command of the vote is decided
abbrev pub decided_by : Vote → DecidedValue
decided_by v = record { first = v.position; commands = v.command ∷ [] }

-- Each reply was sent before it is delivered. The leader has told each other member what is decided at the position,
-- has executed more, and fills on in the same ballot with the same promises.
pub record FillsOnIn (m : Meaning) (IsText : List ℕ → Type 0) (x : ℕ) (leader : ReplicaValue) (t : TermValue)
    (set : List Member) (others : List ℕ) (last : ℕ) (v : Vote) (old new : WorldState ReplicaValue)
    (k : Fills m IsText x (x ∷ others) v old new) : Type 0 where
  pub accepts : (n : ℕ) → Contains (x ∷ others) n
      → HasSentTo k.accepted n x (kinds.Accepted v)
  pub tells : (n : ℕ) → Contains (nodes_of set) n → 1 ≤ n → (n ≡ x → ⊥)
      → HasSentTo new x n (kinds.Decided (decided_by v))
  pub after : ReplicaValue
  pub term : TermValue
  pub ballot : term.ballot ≡ t.ballot
  pub received : term.received ≡ t.received
  pub moves : executed leader.node.learner < executed after.node.learner
  pub fills : IsFilling m IsText new x after term set others last

abbrev pub PositionIsFilled : Meaning → (List ℕ → Type 0) → Type 0
PositionIsFilled m IsText = (old new : WorldState ReplicaValue) (x : ℕ) (leader : ReplicaValue) (t : TermValue)
    (set : List Member) (others : List ℕ) (last : ℕ) (v : Vote) → IsFilling m IsText old x leader t set others last
    → IsNextVote leader.node t v
    → (k : Fills m IsText x (x ∷ others) v old new)
    → FillsOnIn m IsText x leader t set others last v old new k
