-- Nodes that have restarted, a majority of members that never changed: whatever they did before and have promised, a
-- request is answered once all of them are level.
use Rattle.std.specs.Prelude.{ℕ, ◌+◌, ◌*◌, ◌<◌, ◌≤◌, List, ◌∷◌, Contains}
use Rattle.lk_types.specs.Limits.{max_count}
use Rattle.lk_types.specs.declared.command.Request.{Request as RequestValue}
use Rattle.lk_state.specs.Meanings.{Meaning}
use Rattle.lk_learner.specs.Learners.{executed}
use Rattle.lk_node.specs.NodeValue.{NodeValue}
use Rattle.lk_replica.specs.ReplicaValue.{ReplicaValue}
use Rattle.lk_sim.specs.WorldStates.{WorldState}
use Rattle.lk_world_progress.specs.Delivering.{AreDistinct}
use Rattle.lk_world_progress.specs.Restarting.{HaveRestarted, RestartInTurn}
use Rattle.lk_world_progress.specs.Stepping.{Holds, IsUpAs}
use Rattle.lk_world_leftovers.specs.Filling.{PairsUpTo}
use Rattle.lk_world_leftovers.specs.Fixed.{IsFresh}
use Rattle.lk_world_leftovers.specs.Lagging.{MayContend}
use Rattle.lk_world_leftovers.specs.Leveling.{AreLevel, AreOpen, FeedInTurn, Feeding}
use Rattle.lk_world_leftovers.specs.Persisting.{AreFixed, HasAnsweredInTime, Persists, VotesUpTo}

-- ---- how far their disks tell

-- the node has executed no position above the last one, and keeps no vote, and knows no pair, above it
pub record EndsBy (node : NodeValue) (last : ℕ) : Type 0 where
  pub within : executed node.learner ≤ last
  pub pairs : PairsUpTo node last
  pub votes : VotesUpTo node last

-- each of these nodes
abbrev pub AllEndBy : WorldState ReplicaValue → List ℕ → ℕ → Type 0
AllEndBy w nodes last = (n : ℕ) → Contains nodes n → (r : ReplicaValue) → IsUpAs w n r → EndsBy r.node last

-- So it is after a restart if the last position is 2 alpha above what each of them has executed.
abbrev pub RestartedNodesEnd : Meaning → (List ℕ → Type 0) → Type 0
RestartedNodesEnd m IsText =
    (nodes : List ℕ) (most : ℕ) (old new : WorldState ReplicaValue) → HaveRestarted nodes old new
    → Holds m IsText new
    → ((n : ℕ) → Contains nodes n → (r : ReplicaValue) → IsUpAs new n r → executed r.node.learner ≤ most)
    → AllEndBy new nodes (most + 2 * new.genesis.alpha)

-- they have gathered nothing
abbrev pub RestartedNodesAreOpen : Meaning → (List ℕ → Type 0) → Type 0
RestartedNodesAreOpen m IsText = (nodes : List ℕ) (old new : WorldState ReplicaValue) → HaveRestarted nodes old new
    → Holds m IsText new → AreOpen new nodes

-- ---- an answer

-- nodes that have restarted may contend for answering, whatever they did before
abbrev pub RestartedNodesMayContend : Meaning → (List ℕ → Type 0) → Type 0
RestartedNodesMayContend m IsText = (x : ℕ) (others : List ℕ) (last : ℕ) (old new : WorldState ReplicaValue)
    → HaveRestarted (x ∷ others) old new → Holds m IsText new → AreDistinct (x ∷ others)
    → AllEndBy new (x ∷ others) last → (e : ℕ) × MayContend m IsText new x e others last

-- The candidate and the others have restarted, one after another. The candidate feeds others and is fed by others,
-- until all are level. Then rivals reject the candidate, until it has none left, and with one exchange the request is
-- answered.
abbrev pub RestartedMajorityAnswers : Meaning → (List ℕ → Type 0) → Type 0
RestartedMajorityAnswers m IsText = (x : ℕ) (others : List ℕ) (highest : ℕ) (fs : List Feeding) (r : RequestValue)
    (old restarted first last : WorldState ReplicaValue) → AreDistinct (x ∷ others)
    → RestartInTurn m IsText (x ∷ others) old restarted → Holds m IsText restarted
    → AllEndBy restarted (x ∷ others) highest → FeedInTurn m IsText x others fs restarted first
    → AreLevel first x others highest → highest < max_count
    → (k : Persists m IsText x others r first last) → AreFixed k.ready x others → IsFresh k.exchanges.ready r
    → (e : ℕ) × HasAnsweredInTime m IsText x e others highest r first last k
