-- Nodes of a world that were started are stopped and restarted.
use Rattle.std.specs.Prelude.{◌≡◌, ◌⊎◌, ℕ, List, Contains}
use Rattle.lk_state.specs.Meanings.{Meaning}
use Rattle.lk_replica.specs.ReplicaValue.{ReplicaValue}
use Rattle.lk_sim.specs.WorldStates.{WorldState}
use Rattle.lk_sim.specs.declared.event.Event.TheVariants as event
use Rattle.lk_sim_nodes.specs.SimNodes.{IsDown, IsStarted}
use Rattle.lk_world_progress.specs.Stepping.{GoesWell}

-- each of these nodes was started
abbrev pub AreStarted : WorldState ReplicaValue → List ℕ → Type 0
AreStarted w nodes = (n : ℕ) → Contains nodes n → IsStarted w.sim_nodes n

-- the node is down: nothing has changed, or it was stopped
abbrev pub HasStopped : Meaning → (List ℕ → Type 0) → ℕ → WorldState ReplicaValue → WorldState ReplicaValue → Type 0
HasStopped m IsText n old new =
    IsDown new.sim_nodes n × ((new ≡ old) ⊎ ((x y : ℕ) × GoesWell m IsText old (event.Stop n x y) new))
