-- A node of a world to which ticks come until it begins a ballot.
use Rattle.std.specs.Prelude.{◌≡◌, ℕ, ◌+◌, ◌<◌, true, None, List}
use Rattle.lk_types.specs.BallotValue.{BallotValue}
use Rattle.lk_types.specs.Limits.{max_count}
use Rattle.lk_messages.specs.Grammar.{Spells}
use Rattle.lk_messages.specs.declared.message.Content.TheVariants as content
use Rattle.lk_messages.specs.declared.message.NodeMessage.TheVariants as kinds
use Rattle.lk_members.specs.Ports.{is_named}
use Rattle.lk_agreement_laws.specs.Datagrams.{Datagram}
use Rattle.lk_state.specs.Meanings.{Meaning}
use Rattle.lk_learner.specs.Learners.{executed}
use Rattle.lk_node.specs.Beginning.{next_ballot}
use Rattle.lk_node.specs.Nearness.{AreNear}
use Rattle.lk_progress.specs.Electing.{IsDue}
use Rattle.lk_progress.specs.Ticking.{MayBegin}
use Rattle.lk_replica.specs.ReplicaValue.{ReplicaValue}
use Rattle.lk_sim.specs.WorldStates.{WorldState}
use Rattle.lk_sim.specs.declared.event.Event.TheVariants as event
use Rattle.lk_world_progress.specs.Stepping.{GoesWell, IsUpAs}
use Rattle.lk_world_leftovers.specs.Persisting.{WaitsIn}
use Rattle.lk_healing.specs.declared.asking.Asking.{Asking}

-- The node is up and has no term. It is a member of its next position, and so named by its window. Its acceptor and its
-- learner are near, and a round and a position are left.
pub record MayBeginIn (w : WorldState ReplicaValue) (n : ℕ) : Type 0 where
  pub replica : ReplicaValue
  pub up : IsUpAs w n replica
  pub near : AreNear replica.node.acceptor replica.node.learner
  pub idle : replica.node.leader.term ≡ None
  pub position : executed replica.node.learner < max_count
  pub index : ℕ
  pub may : MayBegin replica.node index
  pub named : is_named n replica.node.learner.whole.roster.sets ≡ true

-- the datagram spells a Prepare, of whatever node
pub record IsPrepare (d : Datagram) : Type 0 where
  pub cluster : ℕ
  pub from : ℕ
  pub ballot : BallotValue
  pub first : ℕ
  pub spelled : Spells (record { cluster = cluster; content = content.Node from (kinds.Prepare ballot first) }) d.bytes

-- After some ticks, none of which began a ballot, it was due. The last tick has begun its next ballot, and this is what
-- it asks.
pub record BeginsAfter (m : Meaning) (IsText : List ℕ → Type 0) (n : ℕ) (old new : WorldState ReplicaValue)
    (asking : Asking) : Type 0 where
  pub ticks : ℕ
  pub few : ticks < 28
  pub due : WorldState ReplicaValue
  pub waits : WaitsIn m IsText n ticks old due
  pub candidate : ReplicaValue
  pub up : IsUpAs due n candidate
  pub is_due : IsDue candidate.node
  pub begins : GoesWell m IsText due (event.Tick n) new
  pub cluster : asking.cluster ≡ new.genesis.cluster
  pub ballot : asking.ballot ≡ next_ballot candidate.node
  pub first : asking.first ≡ executed candidate.node.learner + 1
