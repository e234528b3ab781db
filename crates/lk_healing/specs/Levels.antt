-- The nodes of a majority execute as much as the one of them that has executed most.
use Rattle.std.specs.Prelude.{◌≡◌, ℕ, ◌+◌, ◌*◌, ◌≤◌, List, ◌∷◌, Contains}
use Rattle.lk_state.specs.Meanings.{Meaning}
use Rattle.lk_learner.specs.Learners.{executed}
use Rattle.lk_replica.specs.ReplicaValue.{ReplicaValue}
use Rattle.lk_sim.specs.WorldStates.{WorldState}
use Rattle.lk_sim.specs.Traces.{asked_in}
use Rattle.lk_world_progress.specs.Beginning.{IsNewWorld}
use Rattle.lk_world_progress.specs.Delivering.{AreDistinct}
use Rattle.lk_world_progress.specs.Exchanging.{number_of}
use Rattle.lk_world_progress.specs.Stepping.{IsUpAs}
use Rattle.lk_world_leftovers.specs.Fixed.{NobodyChanges}
use Rattle.lk_healing.specs.Feeds.{MayGain}

-- each of these nodes may gain
abbrev pub AllMayGain : Meaning → (List ℕ → Type 0) → WorldState ReplicaValue → ℕ → List ℕ → Type 0
AllMayGain m IsText w last nodes =
    (n : ℕ) → Contains nodes n → (r : ReplicaValue) × MayGain m IsText w last n r

-- These nodes are members, and all different. No vote or pair that they keep is above the last position, which is at
-- most 2 alpha above what one of them has executed. Nobody has asked to change the members.
pub record MayLevel (m : Meaning) (IsText : List ℕ → Type 0) (w : WorldState ReplicaValue) (x : ℕ) (nodes : List ℕ)
    : Type 0 where
  pub others : List ℕ
  pub are : nodes ≡ x ∷ others
  pub distinct : AreDistinct nodes
  pub changes : NobodyChanges w
  pub last : ℕ
  pub each : AllMayGain m IsText w last nodes
  pub top : ℕ
  pub among : Contains nodes top
  pub near : last ≤ executed (each top among).0.node.learner + 2 * w.genesis.alpha

-- The nodes of a new cluster meet the premises.
abbrev pub NewWorldsMayLevel : Meaning → (List ℕ → Type 0) → Type 0
NewWorldsMayLevel m IsText =
    (w : WorldState ReplicaValue) (candidate : ReplicaValue) (index ticks : ℕ) (others : List ℕ)
    → IsNewWorld m IsText w candidate index ticks others → NobodyChanges w
    → MayLevel m IsText w (number_of candidate) (number_of candidate ∷ others)

-- Each of them has executed as many positions, and nothing was asked.
pub record AreEqual (m : Meaning) (IsText : List ℕ → Type 0) (x : ℕ) (nodes : List ℕ)
    (old new : WorldState ReplicaValue)
    (k : MayLevel m IsText old x nodes) : Type 0 where
  pub e : ℕ
  pub each : (n : ℕ) → Contains nodes n
      → (r : ReplicaValue) × MayGain m IsText new k.last n r × (executed r.node.learner ≡ e)
  pub near : k.last ≤ e + 2 * new.genesis.alpha
  pub asked : asked_in new.trace ≡ asked_in old.trace
  pub genesis : new.genesis ≡ old.genesis

-- ---- one round of it

-- each of them may level as before; nothing was asked
pub record StillLevels (m : Meaning) (IsText : List ℕ → Type 0) (x : ℕ) (nodes : List ℕ)
    (old new : WorldState ReplicaValue)
    (k : MayLevel m IsText old x nodes) : Type 0 where
  pub each : AllMayGain m IsText new k.last nodes
  pub rises : (n : ℕ) → Contains nodes n → (r q : ReplicaValue) → IsUpAs old n r → IsUpAs new n q
      → executed r.node.learner ≤ executed q.node.learner
  pub asked : asked_in new.trace ≡ asked_in old.trace
  pub genesis : new.genesis ≡ old.genesis

-- The first node has executed at least as much as each, and this much if there are others. These have executed as much
-- as before.
pub record HasRisen (m : Meaning) (IsText : List ℕ → Type 0) (x : ℕ) (nodes : List ℕ)
    (old new : WorldState ReplicaValue)
    (reached : ℕ) (k : MayLevel m IsText old x nodes) : Type 0 where
  pub still : StillLevels m IsText x nodes old new k
  pub above : (n : ℕ) → Contains nodes n → (r c : ReplicaValue) → IsUpAs new n r → IsUpAs new x c
      → executed r.node.learner ≤ executed c.node.learner
  pub reach : (n : ℕ) → Contains k.others n → (c : ReplicaValue) → IsUpAs new x c → executed c.node.learner ≡ reached
  pub rest : (n : ℕ) → Contains k.others n → (r q : ReplicaValue) → IsUpAs old n r → IsUpAs new n q
      → executed q.node.learner ≡ executed r.node.learner

-- each has executed at least as much as the first node, and this as much as before
pub record HasFed (m : Meaning) (IsText : List ℕ → Type 0) (x : ℕ) (nodes : List ℕ) (old new : WorldState ReplicaValue)
    (k : MayLevel m IsText old x nodes) : Type 0 where
  pub still : StillLevels m IsText x nodes old new k
  pub fed : (n : ℕ) → Contains nodes n → (r c : ReplicaValue) → IsUpAs new n r → IsUpAs new x c
      → executed c.node.learner ≤ executed r.node.learner
  pub rest : (r q : ReplicaValue) → IsUpAs old x r → IsUpAs new x q → executed q.node.learner ≡ executed r.node.learner
