-- A node of a world that has no term is nudged, and tells how many positions it has executed.
use Rattle.std.specs.Prelude.{◌≡◌, ℕ, ◌≤◌, true, None, List}
use Rattle.lk_messages.specs.Grammar.{Spells}
use Rattle.lk_messages.specs.declared.message.Content.TheVariants as content
use Rattle.lk_messages.specs.declared.message.Nack.{Nack}
use Rattle.lk_messages.specs.declared.message.NodeMessage.TheVariants as kinds
use Rattle.lk_members.specs.Ports.{is_named}
use Rattle.lk_agreement_laws.specs.Datagrams.{Datagram}
use Rattle.lk_state.specs.Meanings.{Meaning}
use Rattle.lk_node_interface.specs.declared.nudge_reason.NudgeReason.TheVariants.{TicksWithheld}
use Rattle.lk_node.specs.Nudging.{progress}
use Rattle.lk_replica.specs.ReplicaValue.{ReplicaValue}
use Rattle.lk_sim.specs.WorldStates.{WorldState}
use Rattle.lk_sim.specs.declared.event.Event.TheVariants as event
use Rattle.lk_world_progress.specs.Stepping.{GoesWell, IsUpAs}
use Rattle.lk_healing.specs.declared.progress.Progress.{Progress}

-- the node is up and has no term, and its window names another one
pub record MayTell (w : WorldState ReplicaValue) (n : ℕ) : Type 0 where
  pub replica : ReplicaValue
  pub up : IsUpAs w n replica
  pub idle : replica.node.leader.term ≡ None
  pub other : ℕ
  pub some : 1 ≤ other
  pub apart : other ≡ n → ⊥
  pub named : is_named other replica.node.learner.whole.roster.sets ≡ true

-- the datagram spells a rejection, of whatever node
pub record IsNack (d : Datagram) : Type 0 where
  pub cluster : ℕ
  pub from : ℕ
  pub nack : Nack
  pub spelled : Spells (record { cluster = cluster; content = content.Node from (kinds.Nack nack) }) d.bytes

-- it was nudged, and has told this
pub record HasTold (m : Meaning) (IsText : List ℕ → Type 0) (n : ℕ) (old new : WorldState ReplicaValue) (p : Progress)
    : Type 0 where
  pub nudged : GoesWell m IsText old (event.Nudge n TicksWithheld) new
  pub cluster : p.cluster ≡ new.genesis.cluster
  pub tells : (r : ReplicaValue) → IsUpAs old n r → p.nack ≡ progress r.node
