-- Nodes of a candidate's majority that have executed too little, the candidate or others: each is fed the commands that
-- it lacks, after a rejection.
use Rattle.std.specs.Prelude.{◌≡◌, ◌⊎◌, ℕ, ◌+◌, ◌<◌, ◌≤◌, None, List, [], ◌∷◌, Contains}
use Rattle.lk_types.specs.Limits.{max_commands}
use Rattle.lk_types.specs.declared.vote.Vote.{Vote}
use Rattle.lk_messages.specs.declared.message.Content.TheVariants as content
use Rattle.lk_messages.specs.declared.message.Nack.{Nack}
use Rattle.lk_messages.specs.declared.message.NodeMessage.TheVariants as kinds
use Rattle.lk_state.specs.Meanings.{Meaning}
use Rattle.lk_learner.specs.Learners.{decided_from, executed, wanted}
use Rattle.lk_node.specs.Nearness.{AreNear}
use Rattle.lk_node.specs.NodeValue.{NodeValue}
use Rattle.lk_node_interface.specs.declared.nudge_reason.NudgeReason.{NudgeReason}
use Rattle.lk_replica.specs.ReplicaValue.{ReplicaValue}
use Rattle.lk_sim.specs.WorldStates.{WorldState}
use Rattle.lk_sim.specs.declared.event.Event.TheVariants as event
use Rattle.lk_world_progress.specs.Balloting.{HasSentTo}
use Rattle.lk_world_progress.specs.Delivering.{AreDistinct, Delivers, Hears}
use Rattle.lk_world_progress.specs.Stepping.{GoesWell, Holds, IsUpAs}
use Rattle.lk_world_leftovers.specs.Filling.{PairsUpTo}
use Rattle.lk_world_leftovers.specs.Persisting.{Contends, VotesUpTo}

-- ---- who takes part

-- the node is up, has executed no position above the last one, and keeps no vote, and knows no pair, above that
pub record MayLag (w : WorldState ReplicaValue) (last : ℕ) (n : ℕ) : Type 0 where
  pub replica : ReplicaValue
  pub up : IsUpAs w n replica
  pub near : AreNear replica.node.acceptor replica.node.learner
  pub within : executed replica.node.learner ≤ last
  pub pairs : PairsUpTo replica.node last
  pub votes : VotesUpTo replica.node last

-- The candidate is as one that contends and has executed e positions. Each of the others may lag behind it, or be ahead
-- of it, however far.
pub record MayContend (m : Meaning) (IsText : List ℕ → Type 0) (w : WorldState ReplicaValue) (x e : ℕ) (others : List ℕ)
    (last : ℕ) : Type 0 where
  pub candidate : Contends m IsText w x e e [] last
  pub within : e ≤ last
  pub others_lag : (n : ℕ) → Contains others n → MayLag w last n
  pub distinct : AreDistinct (x ∷ others)

-- ---- what may happen in between

-- what the second node has executed and knows is the first one's, and its votes are among the first one's
pub record Lasts (old new : NodeValue) : Type 0 where
  pub whole : new.learner.whole ≡ old.learner.whole
  pub pairs : new.learner.pairs ≡ old.learner.pairs
  pub votes : (v : Vote) → Contains new.acceptor.state.votes v → Contains old.acceptor.state.votes v
  pub near : AreNear old.acceptor old.learner → AreNear new.acceptor new.learner

-- Whatever has happened, the candidate and the others are up, and have lasted. The candidate has no term, and nothing
-- waits at it.
pub record AllLast (m : Meaning) (IsText : List ℕ → Type 0) (x : ℕ) (others : List ℕ)
    (old new : WorldState ReplicaValue) : Type 0 where
  pub holds : Holds m IsText new
  pub candidate_lasts : (r : ReplicaValue) → IsUpAs old x r → (q : ReplicaValue) × IsUpAs new x q
      × Lasts r.node q.node × (q.node.leader.term ≡ None) × (q.node.leader.waiting ≡ [])
  pub others_last : (n : ℕ) → Contains others n → (r : ReplicaValue) → IsUpAs old n r
      → (q : ReplicaValue) × IsUpAs new n q × Lasts r.node q.node

-- so it is after a nudge of one of the others, by which this one may tell the rest what it has executed
abbrev pub NudgedVoterLasts : Meaning → (List ℕ → Type 0) → Type 0
NudgedVoterLasts m IsText = (x e n : ℕ) (others : List ℕ) (last : ℕ) (reason : NudgeReason)
    (old new : WorldState ReplicaValue)
    → MayContend m IsText old x e others last → Contains others n
    → GoesWell m IsText old (event.Nudge n reason) new → AllLast m IsText x others old new

-- ---- another node is fed

-- The candidate takes a rejection of this node, which tells what it has executed, and the node takes the commands that
-- the candidate sends for that. The candidate has executed more, keeps the commands after that, and has no rebase due.
pub record Feeds (m : Meaning) (IsText : List ℕ → Type 0) (x n : ℕ) (old new : WorldState ReplicaValue) : Type 0 where
  pub candidate : ReplicaValue
  pub up : IsUpAs old x candidate
  pub voter : ReplicaValue
  pub voter_up : IsUpAs old n voter
  pub kept : candidate.node.learner.snapshot_position ≤ executed voter.node.learner
  pub less : executed voter.node.learner < executed candidate.node.learner
  pub nack : Nack
  pub tells : nack.executed ≡ executed voter.node.learner
  pub told : WorldState ReplicaValue
  pub hears : Delivers m IsText x (content.Node n (kinds.Nack nack)) old told
  pub takes : Hears m IsText n
      (content.Node x (kinds.Decided (decided_from (nack.executed + 1) candidate.node.learner))) told new

-- the second replica has executed more than the first one: 16 commands, or as much as the one that has fed it
abbrev pub Gains : ReplicaValue → ReplicaValue → ReplicaValue → Type 0
Gains feeder old new = (executed old.node.learner < executed new.node.learner)
    × ((executed feeder.node.learner ≤ executed new.node.learner)
    ⊎ (executed old.node.learner + max_commands ≤ executed new.node.learner))

-- The commands were sent before they are delivered. The node has gained by them, and all of them may contend as before.
-- Nobody else has changed what it has executed.
pub record IsFedIn (m : Meaning) (IsText : List ℕ → Type 0) (x e n : ℕ) (others : List ℕ) (last : ℕ)
    (old new : WorldState ReplicaValue) (k : Feeds m IsText x n old new) : Type 0 where
  pub sends : HasSentTo k.told x n
      (kinds.Decided (decided_from (k.nack.executed + 1) k.candidate.node.learner))
  pub may : MayContend m IsText new x e others last
  pub after : ReplicaValue
  pub is : IsUpAs new n after
  pub gains : Gains k.candidate k.voter after
  pub rest : (j : ℕ) (r : ReplicaValue) → (j ≡ x → ⊥) → (j ≡ n → ⊥) → IsUpAs old j r → IsUpAs new j r

abbrev pub LaggingVoterIsFed : Meaning → (List ℕ → Type 0) → Type 0
LaggingVoterIsFed m IsText = (x e n : ℕ) (others : List ℕ) (last : ℕ) (old new : WorldState ReplicaValue)
    → MayContend m IsText old x e others last → Contains others n → (k : Feeds m IsText x n old new)
    → IsFedIn m IsText x e n others last old new k

-- ---- the candidate is fed

-- The candidate takes a rejection of this node, which tells that it has executed more, and asks for the rest. The node
-- takes that, and the candidate takes the commands that the node then sends. The node keeps the commands after those
-- that the candidate has executed, and has no rebase due.
pub record IsFedBy (m : Meaning) (IsText : List ℕ → Type 0) (x n : ℕ) (old new : WorldState ReplicaValue) : Type 0 where
  pub candidate : ReplicaValue
  pub up : IsUpAs old x candidate
  pub voter : ReplicaValue
  pub voter_up : IsUpAs old n voter
  pub kept : voter.node.learner.snapshot_position ≤ executed candidate.node.learner
  pub less : executed candidate.node.learner < executed voter.node.learner
  pub nack : Nack
  pub tells : executed candidate.node.learner < nack.executed
  pub told : WorldState ReplicaValue
  pub hears : Hears m IsText x (content.Node n (kinds.Nack nack)) old told
  pub asking : ReplicaValue
  pub asks : IsUpAs told x asking
  pub served : WorldState ReplicaValue
  pub serves : Delivers m IsText n (content.Node x (kinds.Want (wanted asking.node.learner))) told served
  pub takes : Hears m IsText x
      (content.Node n (kinds.Decided (decided_from (executed candidate.node.learner + 1) voter.node.learner)))
      served new

-- What it asks and the commands were sent before they are delivered. The candidate has gained by them, and all of them
-- may contend as before. Nobody else has changed what it has executed.
pub record IsFedByIn (m : Meaning) (IsText : List ℕ → Type 0) (x n : ℕ) (others : List ℕ) (last : ℕ)
    (old new : WorldState ReplicaValue) (k : IsFedBy m IsText x n old new) : Type 0 where
  pub asks : HasSentTo k.told x n (kinds.Want (wanted k.asking.node.learner))
  pub sends : HasSentTo k.served n x
      (kinds.Decided (decided_from (executed k.candidate.node.learner + 1) k.voter.node.learner))
  pub after : ReplicaValue
  pub is : IsUpAs new x after
  pub gains : Gains k.voter k.candidate after
  pub may : MayContend m IsText new x (executed after.node.learner) others last
  pub rest : (j : ℕ) (r : ReplicaValue) → Contains others j → IsUpAs old j r
      → (q : ReplicaValue) × IsUpAs new j q × Lasts r.node q.node

abbrev pub LaggingCandidateIsFed : Meaning → (List ℕ → Type 0) → Type 0
LaggingCandidateIsFed m IsText = (x e n : ℕ) (others : List ℕ) (last : ℕ) (old new : WorldState ReplicaValue)
    → MayContend m IsText old x e others last → Contains others n → (k : IsFedBy m IsText x n old new)
    → IsFedByIn m IsText x n others last old new k
