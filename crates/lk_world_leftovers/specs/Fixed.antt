-- A world in which nobody has asked to change the members: what its nodes know of these, and a candidate that nobody of
-- a majority is ahead of.
use Rattle.std.specs.Prelude.{◌≡◌, ℕ, ◌+◌, ◌*◌, ◌<◌, ◌≤◌, true, false, List, [], ◌∷◌, map, Contains}
use Rattle.lk_types.specs.Ballots.{IsAtMost, IsBelow}
use Rattle.lk_types.specs.Limits.{max_count}
use Rattle.lk_types.specs.declared.command.Request.{Request as RequestValue}
use Rattle.lk_types.specs.declared.genesis.Genesis.{Genesis}
use Rattle.lk_types.specs.declared.vote.Vote.{Vote}
use Rattle.lk_members.specs.Majorities.{IsMajority}
use Rattle.lk_members.specs.Rosters.{IsChange, is_member}
use Rattle.lk_state.specs.Meanings.{Meaning}
use Rattle.lk_state.specs.Sessions.{session_of, is_new}
use Rattle.lk_leader.specs.Proposing.{AreMembersAt}
use Rattle.lk_leader.specs.Values.{is_changing_at}
use Rattle.lk_learner.specs.Learners.{Pair, executed, alpha}
use Rattle.lk_node.specs.Beginning.{next_ballot}
use Rattle.lk_node.specs.Executing.{NothingToRun}
use Rattle.lk_node.specs.Nearness.{AreNear}
use Rattle.lk_node.specs.NodeValue.{NodeValue}
use Rattle.lk_progress.specs.Electing.{IsDue}
use Rattle.lk_progress.specs.LeadingOn.{AreAll, KeepsMembers}
use Rattle.lk_replica.specs.ReplicaValue.{ReplicaValue}
use Rattle.lk_sim.specs.WorldStates.{WorldState}
use Rattle.lk_sim.specs.Traces.{asked_in}
use Rattle.lk_world_progress.specs.Delivering.{AreDistinct}
use Rattle.lk_world_progress.specs.Exchanging.{number_of}
use Rattle.lk_world_progress.specs.Stepping.{Holds, IsUpAs}
use Rattle.lk_world_leftovers.specs.Collecting.{HasLeftovers}
use Rattle.lk_world_leftovers.specs.Filling.{PairsUpTo}

-- ---- members

-- nobody has asked to change the members
abbrev pub NobodyChanges : WorldState ReplicaValue → Type 0
NobodyChanges w = (r : RequestValue) → Contains (asked_in w.trace) r → IsChange r.op → ⊥

-- each position of the node's window has the members of the genesis, no change is to take effect, and neither a pair
-- nor a vote that it keeps makes one
pub record KnowsMembers (genesis : Genesis) (node : NodeValue) : Type 0 where
  pub fixed : AreAll node.learner.whole.roster.sets genesis.members
  pub members : AreMembersAt node.learner.whole.roster (executed node.learner + 1) genesis.members
  pub unchanged : is_changing_at node.learner.whole.roster (executed node.learner + 1) ≡ false
  pub pairs : (p : Pair) → Contains node.learner.pairs p → KeepsMembers p.1
  pub votes : (v : Vote) → Contains node.acceptor.state.votes v → KeepsMembers v.command

abbrev pub NodesKnowMembers : Meaning → (List ℕ → Type 0) → Type 0
NodesKnowMembers m IsText = (w : WorldState ReplicaValue) (n : ℕ) (r : ReplicaValue) → Holds m IsText w
    → NobodyChanges w
    → IsUpAs w n r → KnowsMembers w.genesis r.node

-- ---- requests

-- the client has asked nothing with this number or a greater one
abbrev pub IsFresh : WorldState ReplicaValue → RequestValue → Type 0
IsFresh w r = (q : RequestValue) → Contains (asked_in w.trace) q → q.client ≡ r.client → q.number < r.number

-- so its number is above that of its client's last request at each node
abbrev pub FreshRequestsAreNew : Meaning → (List ℕ → Type 0) → Type 0
FreshRequestsAreNew m IsText = (w : WorldState ReplicaValue) (n : ℕ) (node : ReplicaValue) (r : RequestValue)
    → Holds m IsText w → IsUpAs w n node → IsFresh w r
    → is_new (session_of r.client node.node.learner.whole.sessions) r.number ≡ true

-- ---- ballots

-- if a node has promised no ballot above the next one of a node that is up, its votes are of smaller ballots than that
abbrev pub VotesAreOlder : Meaning → (List ℕ → Type 0) → Type 0
VotesAreOlder m IsText = (w : WorldState ReplicaValue) (n x : ℕ) (r c : ReplicaValue) (v : Vote) → Holds m IsText w
    → IsUpAs w n r → IsUpAs w x c → IsAtMost r.node.acceptor.state.promised (next_ballot c.node)
    → Contains r.node.acceptor.state.votes v → IsBelow v.ballot (next_ballot c.node)

-- ---- a candidate that nobody is ahead of

-- The candidate is up and due to begin a ballot, and is a member of the genesis. Nothing waits at it, and nothing is
-- left to execute. The others are up, and with it they are a majority of these members. None of them has promised a
-- ballot above its next one, or has executed more. No vote that they all keep, and no pair that they know, is above the
-- last position, and each position up to that is one of the next 2 alpha of each of the others.
pub record NobodyIsAhead (m : Meaning) (IsText : List ℕ → Type 0) (w : WorldState ReplicaValue)
    (candidate : ReplicaValue)
    (others : List ReplicaValue) (last : ℕ) : Type 0 where
  pub holds : Holds m IsText w
  pub changes : NobodyChanges w
  pub up : IsUpAs w (number_of candidate) candidate
  pub due : IsDue candidate.node
  pub named : is_member (number_of candidate) w.genesis.members ≡ true
  pub idle : candidate.node.leader.waiting ≡ []
  pub known : NothingToRun candidate.node
  pub near : AreNear candidate.node.acceptor candidate.node.learner
  pub within : executed candidate.node.learner ≤ last
  pub others_up : (r : ReplicaValue) → Contains others r → IsUpAs w (number_of r) r
  pub others_near : (r : ReplicaValue) → Contains others r → AreNear r.node.acceptor r.node.learner
  pub ballot : (r : ReplicaValue) → Contains others r
      → IsAtMost r.node.acceptor.state.promised (next_ballot candidate.node)
  pub behind : (r : ReplicaValue) → Contains others r → executed r.node.learner ≤ executed candidate.node.learner
  pub reaches : (r : ReplicaValue) → Contains others r → last ≤ executed r.node.learner + 2 * alpha r.node.learner
  pub pairs : (r : ReplicaValue) → Contains (candidate ∷ others) r → PairsUpTo r.node last
  pub votes : (r : ReplicaValue) → Contains (candidate ∷ others) r
      → (v : Vote) → Contains r.node.acceptor.state.votes v → v.position ≤ last
  pub distinct : AreDistinct (map number_of (candidate ∷ others))
  pub majority : IsMajority (map number_of (candidate ∷ others)) w.genesis.members
  pub room : last < max_count

-- so the promises of the majority bring it on, and the votes that they report are filled in
abbrev pub FixedWorldHasLeftovers : Meaning → (List ℕ → Type 0) → Type 0
FixedWorldHasLeftovers m IsText = (w : WorldState ReplicaValue) (candidate : ReplicaValue) (others : List ReplicaValue)
    (last : ℕ) → NobodyIsAhead m IsText w candidate others last
    → HasLeftovers m IsText w candidate w.genesis.members others last
