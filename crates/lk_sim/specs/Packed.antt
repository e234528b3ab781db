-- What a compaction leaves on disk.
use Rattle.std.specs.Prelude.{◌≡◌, ℕ, None}
use Rattle.lk_disk.specs.Disk.{Disk}
use Rattle.lk_disk.specs.declared.device.Side.{Side}
use Rattle.lk_state.specs.Meanings.{Meaning}
use Rattle.lk_state.specs.States.{WholeValue}
use Rattle.lk_sim.specs.Kept.{EveryStanding}
use Rattle.lk_sim.specs.WorldStates.{WorldState}
use Rattle.lk_sim_nodes.specs.SimNodes.{At}
use Rattle.lk_sim.specs.States.{IsPackedList}
use Rattle.lk_sim.specs.declared.event.Event.{Event}
use Rattle.lk_sim.specs.declared.event.Event.TheVariants as event
use Rattle.lk_sim_nodes.specs.declared.sim_node.SimNode.{SimNode}
use Rattle.lk_sim_nodes.specs.declared.sim_node.RunState.TheVariants.{Up}

-- the node of this number is up, and whatever a stop may leave of its disks has a snapshot at the position up to which
-- it has executed: the packed text of a chosen list of that length
pub record HasPackedState {R : Type 0} (whole : R → WholeValue) (disks : R → Side → Disk) (m : Meaning)
    (w : WorldState R) (n : ℕ) : Type 0 where
  pub index : ℕ
  pub sim_node : SimNode R
  pub at : At w.sim_nodes index sim_node
  pub number : sim_node.number ≡ n
  pub replica : R
  pub up : sim_node.run_state ≡ Up replica
  pub stands : EveryStanding disks m w.genesis sim_node
      (λ x. (x.position ≡ (whole replica).roster.executed) × IsPackedList m w.genesis w.sent x)

-- a node that compacted is in this state, unless something has ended it
abbrev pub LeavesPackedState : {R : Type 0} → (R → WholeValue) → (R → Side → Disk) → Meaning → Event
    → WorldState R → Type 0
LeavesPackedState whole disks m (event.Compact n) w = w.ended ≡ None → HasPackedState whole disks m w n
LeavesPackedState whole disks m _ w = Unit {0}
