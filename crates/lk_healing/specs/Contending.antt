-- A candidate that nobody of a majority is ahead of: it answers a request once the votes that are left are filled.
use Rattle.std.specs.Prelude.{◌≡◌, ℕ, ◌<◌, ◌≤◌, List, ◌∷◌, Contains}
use Rattle.lk_types.specs.Limits.{max_count}
use Rattle.lk_types.specs.declared.command.Request.{Request as RequestValue}
use Rattle.lk_state.specs.Meanings.{Meaning}
use Rattle.lk_learner.specs.Learners.{executed}
use Rattle.lk_node.specs.Beginning.{greatest_round}
use Rattle.lk_replica.specs.ReplicaValue.{ReplicaValue}
use Rattle.lk_sim.specs.WorldStates.{WorldState}
use Rattle.lk_sim.specs.Traces.{asked_in}
use Rattle.lk_world_progress.specs.Beginning.{IsNewWorld}
use Rattle.lk_world_progress.specs.Exchanging.{number_of}
use Rattle.lk_world_progress.specs.Stepping.{IsUpAs}
use Rattle.lk_world_leftovers.specs.Fixed.{IsFresh, NobodyChanges}
use Rattle.lk_world_leftovers.specs.Persisting.{AreFixed, Contends}

-- a round is left for the next ballot of the node
abbrev pub HasRoundLeft : WorldState ReplicaValue → ℕ → Type 0
HasRoundLeft w n = (q : ReplicaValue) → IsUpAs w n q → greatest_round q.node < max_count

-- the node has executed so many positions
abbrev pub HasExecuted : WorldState ReplicaValue → ℕ → ℕ → Type 0
HasExecuted w n e = (q : ReplicaValue) → IsUpAs w n q → executed q.node.learner ≡ e

-- The first of these nodes contends for answering, and each of them has executed as much. They may have promised
-- greater ballots than its next one, and keep votes and know commands up to the last position. Nobody has asked to
-- change the members, of which they are a majority. A round is left at each of them, and a position after the last one.
pub record MayStand (m : Meaning) (IsText : List ℕ → Type 0) (w : WorldState ReplicaValue) (x : ℕ)
    (nodes : List ℕ) : Type 0 where
  pub others : List ℕ
  pub are : nodes ≡ x ∷ others
  pub e : ℕ
  pub last : ℕ
  pub contends : Contends m IsText w x e e others last
  pub within : e ≤ last
  pub level : (n : ℕ) → Contains others n → HasExecuted w n e
  pub rounds : (n : ℕ) → Contains nodes n → HasRoundLeft w n
  pub fixed : AreFixed w x others
  pub room : last < max_count

-- and the request is fresh
pub record MayContendFor (m : Meaning) (IsText : List ℕ → Type 0) (w : WorldState ReplicaValue) (x : ℕ) (nodes : List ℕ)
    (r : RequestValue) : Type 0 where
  pub stands : MayStand m IsText w x nodes
  pub fresh : IsFresh w r

-- The nodes of a new cluster meet the premises.
abbrev pub NewWorldsMayContendFor : Meaning → (List ℕ → Type 0) → Type 0
NewWorldsMayContendFor m IsText = (w : WorldState ReplicaValue) (candidate : ReplicaValue) (index ticks : ℕ)
    (others : List ℕ) (r : RequestValue) → IsNewWorld m IsText w candidate index ticks others → NobodyChanges w
    → IsFresh w r → MayContendFor m IsText w (number_of candidate) (number_of candidate ∷ others) r

-- the requests that were asked are the same, and so is the genesis
pub record AsksNothing (old new : WorldState ReplicaValue) : Type 0 where
  pub asked : asked_in new.trace ≡ asked_in old.trace
  pub genesis : new.genesis ≡ old.genesis
