-- Convergence: nodes that have executed equally many commands have the same state, to the byte.
--
-- State machine replication: Schneider, Implementing fault-tolerant services using the state machine approach, 1990.
use Rattle.std.specs.Prelude.{◌≡◌, ℕ, List, length, Contains}
use Rattle.lk_types.specs.declared.command.Command.{Command}
use Rattle.lk_replica.specs.ReplicaValue.{ReplicaValue}
use Rattle.lk_sim.specs.WorldStates.{WorldState}
use Rattle.lk_sim_nodes.specs.declared.sim_node.RunState.TheVariants.{Up}
use Rattle.lk_sim_nodes.specs.declared.sim_node.SimNode.{SimNode}
use Rattle.lk_guarantees.specs.Disks.{kept_text, IsSnapshot}
use Rattle.lk_guarantees.specs.Guarantee.{IsChosen, kept_by_replica}

pub record Converges (world : WorldState ReplicaValue) : Type 0 where
  -- two nodes that are up and have executed as much keep the same, and pack it into the same bytes
  pub nodes : (s t : SimNode ReplicaValue) → Contains world.sim_nodes s → Contains world.sim_nodes t
      → (q r : ReplicaValue)
      → s.run_state ≡ Up q → t.run_state ≡ Up r
      → (kept_by_replica q).executed ≡ (kept_by_replica r).executed
      → (kept_by_replica q ≡ kept_by_replica r) × (kept_text (kept_by_replica q) ≡ kept_text (kept_by_replica r))
  -- two snapshots of chosen lists of one length, on any disks and in any datagrams, are the same bytes
  pub snapshots : (K L : List Command) → IsChosen world.genesis world.sent K
      → IsChosen world.genesis world.sent L → length K ≡ length L
      → (a b : List ℕ) → IsSnapshot world.genesis K a → IsSnapshot world.genesis L b → a ≡ b
