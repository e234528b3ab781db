-- A node of a world executes as much as another one.
use Rattle.std.specs.Prelude.{◌≡◌, ℕ, ◌<◌, ◌≤◌, List, Option, Some, None}
use Rattle.lk_state.specs.Meanings.{Meaning}
use Rattle.lk_learner.specs.Learners.{executed}
use Rattle.lk_replica.specs.ReplicaValue.{ReplicaValue}
use Rattle.lk_sim.specs.WorldStates.{WorldState}
use Rattle.lk_world_leftovers.specs.Fixed.{NobodyChanges}
use Rattle.lk_healing.specs.Feeds.{MayGain, RestsBut}
use Rattle.lk_healing.specs.declared.progress.Progress.{Progress}
use Rattle.lk_healing.specs.Tellings.{HasTold}

-- two members of a world in which nobody has asked to change them
pub record MayClose (m : Meaning) (IsText : List ℕ → Type 0) (w : WorldState ReplicaValue) (b a : ℕ) : Type 0 where
  pub apart : b ≡ a → ⊥
  pub changes : NobodyChanges w
  pub last : ℕ
  pub behind : ReplicaValue
  pub own : MayGain m IsText w last b behind
  pub ahead : ReplicaValue
  pub other : MayGain m IsText w last a ahead

-- The first node has executed so many positions, at least as many as the other one and as before. The other one has
-- executed as many as before.
pub record HasClosed (m : Meaning) (IsText : List ℕ → Type 0) (b a : ℕ) (old new : WorldState ReplicaValue)
    (reached : ℕ)
    (k : MayClose m IsText old b a) : Type 0 where
  pub after : ReplicaValue
  pub own : MayGain m IsText new k.last b after
  pub reach : executed after.node.learner ≡ reached
  pub grows : executed k.behind.node.learner ≤ reached
  pub closes : executed k.ahead.node.learner ≤ reached
  pub other_after : ReplicaValue
  pub other : MayGain m IsText new k.last a other_after
  pub same : executed other_after.node.learner ≡ executed k.ahead.node.learner
  pub rests : RestsBut b a old new

-- it was nudged twice, and has told how many positions it has executed
pub record HasToldAnew (m : Meaning) (IsText : List ℕ → Type 0) (n : ℕ) (old new : WorldState ReplicaValue)
    (reached : ℕ)
    : Type 0 where
  pub mid : WorldState ReplicaValue
  pub first : Progress
  pub before : HasTold m IsText n old mid first
  pub second : Progress
  pub after : HasTold m IsText n mid new second
  pub is : reached ≡ second.nack.executed

-- It has executed more than before. The other one has executed as many positions as before.
pub record HasComeOn (m : Meaning) (IsText : List ℕ → Type 0) (b a : ℕ) (old new : WorldState ReplicaValue)
    (k : MayClose m IsText old b a) : Type 0 where
  pub after : ReplicaValue
  pub own : MayGain m IsText new k.last b after
  pub gains : executed k.behind.node.learner < executed after.node.learner
  pub other_after : ReplicaValue
  pub other : MayGain m IsText new k.last a other_after
  pub same : executed other_after.node.learner ≡ executed k.ahead.node.learner
  pub rests : RestsBut b a old new

-- it has executed so many positions, as many as the other one, or more than before
abbrev pub ClosesOrGains : (m : Meaning) (IsText : List ℕ → Type 0) (b a : ℕ) (old new : WorldState ReplicaValue)
    → MayClose m IsText old b a → Option ℕ → Type 0
ClosesOrGains m IsText b a old new k (Some reached) = HasClosed m IsText b a old new reached k
ClosesOrGains m IsText b a old new k None = HasComeOn m IsText b a old new k
