-- The nodes of a leader's majority accept what it proposes at one position after another, among them the leader itself.
use Rattle.std.specs.Prelude.{ℕ, ◌+◌, ◌*◌, ◌<◌, ◌≤◌, List, Contains}
use Rattle.lk_types.specs.BallotValue.{BallotValue}
use Rattle.lk_types.specs.Ballots.{IsAtMost, IsBelow}
use Rattle.lk_types.specs.declared.member.Member.{Member}
use Rattle.lk_types.specs.declared.vote.Vote.{Vote}
use Rattle.lk_messages.specs.declared.message.NodeMessage.TheVariants as kinds
use Rattle.lk_members.specs.Effects.{Command}
use Rattle.lk_state.specs.Meanings.{Meaning}
use Rattle.lk_leader.specs.Terms.{TermValue}
use Rattle.lk_learner.specs.Learners.{alpha, executed}
use Rattle.lk_node_interface.specs.Outboxes.{OutboxValue}
use Rattle.lk_node.specs.Nearness.{AreNear}
use Rattle.lk_node.specs.NodeValue.{NodeValue}
use Rattle.lk_progress.specs.Deciding.{vote_for_next}
use Rattle.lk_progress.specs.Hearing.{Hears}
use Rattle.lk_progress.specs.Rejecting.{Accepts}
use Rattle.lk_leftovers.specs.Filling.{FillsUp}

-- The node has promised no ballot above this one, and has not executed the position. There and above it, it keeps votes
-- of smaller ballots alone.
pub record IsVoterFrom (node : NodeValue) (b : BallotValue) (i : ℕ) : Type 0 where
  pub near : AreNear node.acceptor node.learner
  pub ballot : IsAtMost node.acceptor.state.promised b
  pub above : executed node.learner < i
  pub older : (v : Vote) → Contains node.acceptor.state.votes v → i ≤ v.position → IsBelow v.ballot b

-- the same, and the position is one of its next 2 alpha
pub record IsVoterAt (node : NodeValue) (b : BallotValue) (i : ℕ) : Type 0 where
  pub from : IsVoterFrom node b i
  pub within : i ≤ executed node.learner + 2 * alpha node.learner

-- ---- a voter

-- it accepts, and is such a voter from each later position on
pub record AcceptsAndStays (old : NodeValue) (from : ℕ) (x : Vote) (new : NodeValue) (out : OutboxValue) : Type 0 where
  pub accepts : Accepts old from x new out
  pub stays : (j : ℕ) → x.position < j → IsVoterFrom new x.ballot j

abbrev pub VoterAccepts : Meaning → (List ℕ → Type 0) → Type 0
VoterAccepts m IsText = (old new : NodeValue) (from : ℕ) (x : Vote) (out : OutboxValue)
    → IsVoterAt old x.ballot x.position → Hears m IsText old from (kinds.Accept x) new out
    → AcceptsAndStays old from x new out

-- ---- the leader itself

-- it accepts too, and still fills up in this term
pub record AcceptsItself (old : NodeValue) (t : TermValue) (set : List Member) (v : Command) (new : NodeValue)
    (out : OutboxValue) : Type 0 where
  pub accepts : AcceptsAndStays old old.header.node (vote_for_next old t v) new out
  pub fills : FillsUp new t set

abbrev pub LeaderAccepts : Meaning → (List ℕ → Type 0) → Type 0
LeaderAccepts m IsText = (old new : NodeValue) (t : TermValue) (set : List Member) (v : Command) (out : OutboxValue)
    → FillsUp old t set → IsVoterAt old t.ballot (executed old.learner + 1)
    → Hears m IsText old old.header.node (kinds.Accept (vote_for_next old t v)) new out
    → AcceptsItself old t set v new out
