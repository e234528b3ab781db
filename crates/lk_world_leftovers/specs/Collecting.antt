-- A due candidate of a world, and others that with it are a majority. They may keep votes of earlier ballots above what
-- it has executed. Once it has heard them promise, it leads and fills up.
use Rattle.std.specs.Prelude.{◌≡◌, ℕ, ◌+◌, ◌*◌, ◌<◌, ◌≤◌, true, false, List, [], ◌∷◌, map, Contains}
use Rattle.lk_types.specs.BallotValue.{BallotValue}
use Rattle.lk_types.specs.Ballots.{IsAtMost, IsBelow}
use Rattle.lk_types.specs.Limits.{max_count}
use Rattle.lk_types.specs.declared.member.Member.{Member}
use Rattle.lk_types.specs.declared.vote.Vote.{Vote}
use Rattle.lk_messages.specs.Values.{PromiseValue}
use Rattle.lk_messages.specs.declared.message.Content.TheVariants as content
use Rattle.lk_messages.specs.declared.message.NodeMessage.TheVariants as kinds
use Rattle.lk_members.specs.Majorities.{IsMajority}
use Rattle.lk_members.specs.Nodes.{nodes_of}
use Rattle.lk_members.specs.Rosters.{is_member}
use Rattle.lk_state.specs.Meanings.{Meaning}
use Rattle.lk_acceptor.specs.VoteLists.{votes_from}
use Rattle.lk_leader.specs.Proposing.{AreMembersAt}
use Rattle.lk_leader.specs.Terms.{TermValue}
use Rattle.lk_leader.specs.Values.{is_changing_at}
use Rattle.lk_learner.specs.Learners.{Pair, executed, alpha}
use Rattle.lk_node.specs.Beginning.{next_ballot}
use Rattle.lk_node.specs.Executing.{NothingToRun}
use Rattle.lk_node.specs.Nearness.{AreNear}
use Rattle.lk_node.specs.NodeValue.{NodeValue}
use Rattle.lk_progress.specs.Electing.{IsDue, promises}
use Rattle.lk_progress.specs.Exchanges.{prepare_by}
use Rattle.lk_progress.specs.LeadingOn.{AreAll, KeepsMembers}
use Rattle.lk_replica.specs.ReplicaValue.{ReplicaValue}
use Rattle.lk_sim.specs.WorldStates.{WorldState}
use Rattle.lk_sim.specs.declared.event.Event.TheVariants as event
use Rattle.lk_world_progress.specs.Balloting.{HasSentTo}
use Rattle.lk_world_progress.specs.Delivering.{AreDistinct, HearsEach, HearsInTurn}
use Rattle.lk_world_progress.specs.Exchanging.{number_of}
use Rattle.lk_world_progress.specs.Stepping.{GoesWell, Holds, IsUpAs}
use Rattle.lk_world_leftovers.specs.Filling.{IsFilling, PairsUpTo}

-- ---- who takes part

-- The votes that the node keeps above position e are at most at the last one. They are of ballots below this one, and
-- none of them changes the members.
pub record AreLeftovers (node : NodeValue) (b : BallotValue) (e last : ℕ) : Type 0 where
  pub low : (v : Vote) → Contains node.acceptor.state.votes v → v.position ≤ last
  pub older : (v : Vote) → Contains node.acceptor.state.votes v → e < v.position → IsBelow v.ballot b
  pub keeps : (v : Vote) → Contains node.acceptor.state.votes v → e < v.position → KeepsMembers v.command

-- The node is due to begin a ballot, and is a member. The set is that of each position of its window. Nothing waits,
-- nothing is left to execute, no change of members is to take effect, and no pair that it knows makes one.
pub record IsCandidate (node : NodeValue) (set : List Member) (last : ℕ) : Type 0 where
  pub due : IsDue node
  pub members : AreMembersAt node.learner.whole.roster (executed node.learner + 1) set
  pub fixed : AreAll node.learner.whole.roster.sets set
  pub named : is_member node.header.node set ≡ true
  pub waiting : node.leader.waiting ≡ []
  pub known : NothingToRun node
  pub unchanged : is_changing_at node.learner.whole.roster (executed node.learner + 1) ≡ false
  pub near : AreNear node.acceptor node.learner
  pub keeps : (p : Pair) → Contains node.learner.pairs p → KeepsMembers p.1
  pub pairs : PairsUpTo node last
  pub within : executed node.learner ≤ last
  pub votes : AreLeftovers node (next_ballot node) (executed node.learner) last

-- Another node has promised no ballot above this one, and has executed at most e positions. It knows no pair above the
-- last position, and each position up to that is one of its next 2 alpha.
pub record IsNearVoter (node : NodeValue) (b : BallotValue) (e last : ℕ) : Type 0 where
  pub near : AreNear node.acceptor node.learner
  pub ballot : IsAtMost node.acceptor.state.promised b
  pub behind : executed node.learner ≤ e
  pub pairs : PairsUpTo node last
  pub reaches : last ≤ executed node.learner + 2 * alpha node.learner
  pub votes : AreLeftovers node b e last

-- the candidate and these others are up, and with it they are a majority of the set
pub record HasLeftovers (m : Meaning) (IsText : List ℕ → Type 0) (w : WorldState ReplicaValue)
    (candidate : ReplicaValue)
    (set : List Member) (others : List ReplicaValue) (last : ℕ) : Type 0 where
  pub holds : Holds m IsText w
  pub up : IsUpAs w (number_of candidate) candidate
  pub candidate_is : IsCandidate candidate.node set last
  pub others_up : (r : ReplicaValue) → Contains others r → IsUpAs w (number_of r) r
  pub voters : (r : ReplicaValue) → Contains others r
      → IsNearVoter r.node (next_ballot candidate.node) (executed candidate.node.learner) last
  pub distinct : AreDistinct (map number_of (candidate ∷ others))
  pub majority : IsMajority (map number_of (candidate ∷ others)) set
  pub room : last < max_count

-- ---- the promises

-- what a node promises, with the votes that it keeps from the candidate's next position on
abbrev pub promise_in : NodeValue → ReplicaValue → PromiseValue
promise_in candidate r = record {
  ballot = next_ballot candidate;
  first = executed candidate.learner + 1;
  votes = votes_from (executed candidate.learner + 1) r.node.acceptor.state.votes;
}

-- The candidate takes a tick. Each node takes the candidate's Prepare, and the candidate takes their promises. Nothing
-- else happens meanwhile, but any of these nodes may have a rebase due.
pub record Collects (m : Meaning) (IsText : List ℕ → Type 0) (candidate : ReplicaValue) (others : List ReplicaValue)
    (first last : WorldState ReplicaValue) : Type 0 where
  pub ticked : WorldState ReplicaValue
  pub ticks : GoesWell m IsText first (event.Tick (number_of candidate)) ticked
  pub asked : WorldState ReplicaValue
  pub asks : HearsEach m IsText (content.Node (number_of candidate) (prepare_by candidate.node))
      (map number_of (candidate ∷ others)) ticked asked
  pub leads : HearsInTurn m IsText (number_of candidate)
      (promises (map (λ r. (number_of r, promise_in candidate.node r)) (candidate ∷ others))) asked last

-- The Prepare was sent to each member, and each promise to the candidate, before they are delivered. In the end the
-- candidate leads in the ballot that it has begun, has executed what it had, and fills up.
pub record HasCollected (m : Meaning) (IsText : List ℕ → Type 0) (candidate : ReplicaValue) (set : List Member)
    (others : List ReplicaValue) (highest : ℕ) (first last : WorldState ReplicaValue)
    (k : Collects m IsText candidate others first last) : Type 0 where
  pub asks : (n : ℕ) → Contains (nodes_of set) n → 1 ≤ n
      → HasSentTo k.ticked (number_of candidate) n (prepare_by candidate.node)
  pub promises : (r : ReplicaValue) → Contains (candidate ∷ others) r
      → HasSentTo k.asked (number_of r) (number_of candidate) (kinds.Promise (promise_in candidate.node r))
  pub leader : ReplicaValue
  pub term : TermValue
  pub ballot : term.ballot ≡ next_ballot candidate.node
  pub executed_is : executed leader.node.learner ≡ executed candidate.node.learner
  pub fills : IsFilling m IsText last (number_of candidate) leader term set (map number_of others) highest

abbrev pub CandidateFillsIn : Meaning → (List ℕ → Type 0) → Type 0
CandidateFillsIn m IsText = (candidate : ReplicaValue) (set : List Member) (others : List ReplicaValue)
    (highest : ℕ) (first last : WorldState ReplicaValue) → HasLeftovers m IsText first candidate set others highest
    → (k : Collects m IsText candidate others first last)
    → HasCollected m IsText candidate set others highest first last k
