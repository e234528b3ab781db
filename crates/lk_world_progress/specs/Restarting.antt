-- Nodes of a world restart, one after another: each is then as its disks tell, and has no term.
use Rattle.std.specs.Prelude.{◌≡◌, ◌⊎◌, ℕ, ◌+◌, ◌*◌, ◌≤◌, None, List, [], ◌∷◌, Contains}
use Rattle.lk_memory_disk.specs.Memory.{Memory, disk_of}
use Rattle.lk_log.specs.StoreValue.{StoreValue}
use Rattle.lk_state.specs.Meanings.{Meaning}
use Rattle.lk_leader.specs.Terms.{new_leader}
use Rattle.lk_node_interface.specs.declared.note.Note.{Note}
use Rattle.lk_node.specs.Leavings.{header_of}
use Rattle.lk_learner.specs.Learners.{Pair, alpha, executed}
use Rattle.lk_node.specs.Executing.{NothingToRun}
use Rattle.lk_node.specs.Nearness.{AreNear}
use Rattle.lk_node.specs.NewBases.{with_snapshot}
use Rattle.lk_node.specs.NodeValue.{NodeValue}
use Rattle.lk_recovery.specs.Revivals.{RestartsAs}
use Rattle.lk_replica.specs.ReplicaValue.{ReplicaValue}
use Rattle.lk_sim.specs.WorldStates.{WorldState}
use Rattle.lk_sim.specs.declared.event.Event.TheVariants as event
use Rattle.lk_sim_nodes.specs.declared.sim_node.RunState.{RunState}
use Rattle.lk_sim_nodes.specs.declared.sim_node.RunState.TheVariants.{Down}
use Rattle.lk_world_progress.specs.Delivering.{AreDistinct}
use Rattle.lk_world_progress.specs.Stepping.{GoesWell, IsUpAs, Lives}

-- ---- one node

-- It has no term, nothing waits, no tick has passed, it gathers no snapshot, and it knows no leader and no round of
-- others. Its acceptor and its learner are near, no pair that it knows is more than 2 alpha above what it has executed,
-- and nothing is left to execute.
pub record IsRestarted (node : NodeValue) : Type 0 where
  pub leader : node.leader ≡ new_leader
  pub ticks : node.ticks ≡ 0
  pub rounds : node.rounds ≡ 0
  pub known : node.known ≡ None
  pub gathered : node.learner.gathered ≡ None
  pub near : AreNear node.acceptor node.learner
  pub pairs : (p : Pair) → Contains node.learner.pairs p → p.0 ≤ executed node.learner + 2 * alpha node.learner
  pub runs : NothingToRun node

-- The node was down, and is up as a restart from its disks leaves it: what it has promised, the votes that it keeps and
-- what it has executed are those of its disks. If they were of format 1, a snapshot has replaced the executed commands
-- and the votes up to there. Nothing is sent, and every other node is unchanged.
pub record RestartsIn (m : Meaning) (IsText : List ℕ → Type 0) (n : ℕ) (old new : WorldState ReplicaValue)
    : Type 0 where
  pub device : Memory
  pub was : Lives old n (Down device)
  pub after : ReplicaValue
  pub is : IsUpAs new n after
  pub node : NodeValue
  pub store : StoreValue
  pub notes : List Note
  pub restores : RestartsAs m IsText (disk_of device) (header_of old.genesis n) node store notes
  pub same : ((store.format ≡ 2) × (after.node ≡ node)) ⊎ ((store.format ≡ 1) × (after.node ≡ with_snapshot node))
  pub restarted : IsRestarted after.node
  pub sent : new.sent ≡ old.sent
  pub others : (k : ℕ) (run_state : RunState ReplicaValue) → (k ≡ n → ⊥) → Lives old k run_state → Lives new k run_state
  pub genesis : new.genesis ≡ old.genesis

abbrev pub NodeRestarts : Meaning → (List ℕ → Type 0) → Type 0
NodeRestarts m IsText = (old new : WorldState ReplicaValue) (n : ℕ) → GoesWell m IsText old (event.Restart n) new
    → RestartsIn m IsText n old new

-- ---- several

-- the node restarts. If it was up, it is stopped before that, and any part of its unsynced bytes is lost
abbrev pub StopsAndRestarts : Meaning → (List ℕ → Type 0) → ℕ → WorldState ReplicaValue
    → WorldState ReplicaValue → Type 0
StopsAndRestarts m IsText n old new =
    GoesWell m IsText old (event.Restart n) new
    ⊎ ((x y : ℕ) × (off : WorldState ReplicaValue) × GoesWell m IsText old (event.Stop n x y) off
    × GoesWell m IsText off (event.Restart n) new)

-- each of these does, one after another, and nothing else happens meanwhile
abbrev pub RestartInTurn : Meaning → (List ℕ → Type 0) → List ℕ → WorldState ReplicaValue
    → WorldState ReplicaValue → Type 0
RestartInTurn m IsText [] old new = new ≡ old
RestartInTurn m IsText (n ∷ ns) old new =
    (mid : WorldState ReplicaValue) × StopsAndRestarts m IsText n old mid × RestartInTurn m IsText ns mid new

-- they are up and have restarted, nothing is sent, and every other node is unchanged
pub record HaveRestarted (ns : List ℕ) (old new : WorldState ReplicaValue) : Type 0 where
  pub each : (n : ℕ) → Contains ns n → (r : ReplicaValue) × IsUpAs new n r × IsRestarted r.node
  pub sent : new.sent ≡ old.sent
  pub others : (k : ℕ) (run_state : RunState ReplicaValue) → (Contains ns k → ⊥) → Lives old k run_state
      → Lives new k run_state
  pub genesis : new.genesis ≡ old.genesis

abbrev pub NodesRestart : Meaning → (List ℕ → Type 0) → Type 0
NodesRestart m IsText = (old new : WorldState ReplicaValue) (ns : List ℕ) → AreDistinct ns
    → RestartInTurn m IsText ns old new → HaveRestarted ns old new
