-- A majority of a world whose members never changed is restarted, and answers a request.
use Rattle.std.specs.Prelude.{◌≡◌, ℕ, ◌<◌, List, ◌∷◌, Contains}
use Rattle.lk_types.specs.Limits.{max_count}
use Rattle.lk_types.specs.declared.command.Request.{Request as RequestValue}
use Rattle.lk_memory_disk.specs.Memory.{Memory, disk_of}
use Rattle.lk_store_format.specs.Values.{StandingValue}
use Rattle.lk_log.specs.Images.{seen}
use Rattle.lk_state.specs.Meanings.{Meaning}
use Rattle.lk_node.specs.Leavings.{StandsAs, header_of}
use Rattle.lk_replica.specs.ReplicaValue.{ReplicaValue}
use Rattle.lk_sim.specs.WorldStates.{WorldState}
use Rattle.lk_sim_nodes.specs.declared.sim_node.RunState.TheVariants.{Down}
use Rattle.lk_world_progress.specs.Beginning.{IsNewWorld}
use Rattle.lk_world_progress.specs.Delivering.{AreDistinct}
use Rattle.lk_world_progress.specs.Exchanging.{number_of}
use Rattle.lk_world_progress.specs.Stepping.{IsUpAs, Lives}
use Rattle.lk_world_leftovers.specs.Fixed.{IsFresh, NobodyChanges}
use Rattle.lk_world_leftovers.specs.Persisting.{AreFixed}
use Rattle.lk_healing.specs.Restarts.{AreStarted}

-- ---- what is left

-- The node has promised a ballot of a round below 2^48. If it is down, its disks tell so, whatever text a new store
-- begins with.
pub record HasRoundOnDisks (w : WorldState ReplicaValue) (n : ℕ) : Type 0 where
  pub up : (r : ReplicaValue) → IsUpAs w n r → r.node.acceptor.state.promised.round < max_count
  pub down : (d : Memory) → Lives w n (Down d) → (zero_text : List ℕ) (s : StandingValue)
      → StandsAs (header_of w.genesis n) zero_text (seen (disk_of d)) s → s.promised.round < max_count

-- ---- who heals

-- The first of these nodes and the others are a majority of the members, which nobody has asked to change. Each of them
-- was started, whether it is up or down, and has a round left. The request is fresh.
pub record MayHeal (w : WorldState ReplicaValue) (x : ℕ) (nodes : List ℕ) (r : RequestValue) : Type 0 where
  pub others : List ℕ
  pub are : nodes ≡ x ∷ others
  pub distinct : AreDistinct nodes
  pub fixed : AreFixed w x others
  pub started : AreStarted w nodes
  pub rounds : (n : ℕ) → Contains nodes n → HasRoundOnDisks w n
  pub fresh : IsFresh w r

-- The nodes of a new cluster meet the premises.
abbrev pub NewWorldsMayHeal : Meaning → (List ℕ → Type 0) → Type 0
NewWorldsMayHeal m IsText = (w : WorldState ReplicaValue) (candidate : ReplicaValue) (index ticks : ℕ) (others : List ℕ)
    (r : RequestValue) → IsNewWorld m IsText w candidate index ticks others → NobodyChanges w → IsFresh w r
    → MayHeal w (number_of candidate) (number_of candidate ∷ others) r
