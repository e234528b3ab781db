-- A node of a world to which nothing comes but ticks.
use Rattle.std.specs.Prelude.{◌≡◌, ℕ, zero, suc, ◌+◌, ◌*◌, ◌≤◌, List}
use Rattle.lk_state.specs.Meanings.{Meaning}
use Rattle.lk_node_interface.specs.Ticks.{ticks_a_member}
use Rattle.lk_node.specs.Nearness.{AreNear}
use Rattle.lk_progress.specs.Ticking.{HasTerm, MayBegin}
use Rattle.lk_replica.specs.ReplicaValue.{ReplicaValue}
use Rattle.lk_sim.specs.WorldStates.{WorldState}
use Rattle.lk_sim.specs.declared.event.Event.TheVariants as event
use Rattle.lk_world_progress.specs.Stepping.{GoesWell, Holds, IsUpAs}

-- the node takes this many ticks, and nothing else happens meanwhile
abbrev pub TicksInTurn : Meaning → (List ℕ → Type 0) → ℕ → ℕ → WorldState ReplicaValue
    → WorldState ReplicaValue → Type 0
TicksInTurn m IsText n zero old new = new ≡ old
TicksInTurn m IsText n (suc k) old new =
    (mid : WorldState ReplicaValue) × TicksInTurn m IsText n k old mid × GoesWell m IsText mid (event.Tick n) new

-- A member of its next position has a term after four ticks, and four more for each member before it, if a round is
-- left. Its acceptor and its learner are near, as after a restart.
abbrev pub WorldTicksBegin : Meaning → (List ℕ → Type 0) → Type 0
WorldTicksBegin m IsText = (old new : WorldState ReplicaValue) (n index k : ℕ) (r : ReplicaValue) → Holds m IsText old
    → IsUpAs old n r → AreNear r.node.acceptor r.node.learner → MayBegin r.node index
    → ticks_a_member + ticks_a_member * index ≤ k → TicksInTurn m IsText n k old new
    → (q : ReplicaValue) × IsUpAs new n q × HasTerm q.node
