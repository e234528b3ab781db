-- A candidate of a world that nobody of a majority is ahead of, and that has no vote to fill: it answers a request.
use Rattle.std.specs.Prelude.{◌≡◌, ℕ, ◌+◌, ◌<◌, List, ◌∷◌, Contains}
use Rattle.lk_types.specs.Limits.{max_count}
use Rattle.lk_types.specs.declared.command.Request.{Request as RequestValue}
use Rattle.lk_state.specs.Meanings.{Meaning}
use Rattle.lk_node.specs.NodeValue.{NodeValue}
use Rattle.lk_progress.specs.Ticking.{MayBegin}
use Rattle.lk_replica.specs.ReplicaValue.{ReplicaValue}
use Rattle.lk_sim.specs.WorldStates.{WorldState}
use Rattle.lk_world_progress.specs.Beginning.{IsNewWorld}
use Rattle.lk_world_progress.specs.Exchanging.{HasAnswered, HasNoted, number_of}
use Rattle.lk_world_leftovers.specs.Exchanging.{ReachesNext}
use Rattle.lk_world_leftovers.specs.Fixed.{IsFresh, NobodyChanges}
use Rattle.lk_world_leftovers.specs.Persisting.{AreFixed, Contends, IsNoRival}

-- The first of these nodes contends for answering, and has executed as much as any of them. It keeps no vote, and knows
-- no command, above that, nor do the others. It may begin a ballot, which nobody of them has promised to exceed, and
-- its next position is one of the next 2 alpha of each. Nobody has asked to change the members, of which they are a
-- majority. The request is fresh, and two positions are left.
pub record IsQuietFor (m : Meaning) (IsText : List ℕ → Type 0) (w : WorldState ReplicaValue) (x : ℕ) (nodes : List ℕ)
    (r : RequestValue) : Type 0 where
  pub others : List ℕ
  pub are : nodes ≡ x ∷ others
  pub e : ℕ
  pub contends : Contends m IsText w x e e others e
  pub index : ℕ
  pub may : MayBegin contends.candidate.node index
  pub reach : (n : ℕ) → Contains others n → ReachesNext w contends.candidate n
  pub no_rival : (n : ℕ) → Contains others n → IsNoRival w x n
  pub fixed : AreFixed w x others
  pub fresh : IsFresh w r
  pub room : e + 1 < max_count

-- The node of this number has answered the request, as its machine does for it, and the trace notes that.
pub record IsAnswered (m : Meaning) (w : WorldState ReplicaValue) (n : ℕ) (r : RequestValue) : Type 0 where
  pub node : NodeValue
  pub number : node.header.node ≡ n
  pub answers : HasAnswered m w node r
  pub notes : HasNoted m w node r

-- The nodes of a new cluster, which have executed nothing, meet the premises.
abbrev pub NewWorldsAreQuietFor : Meaning → (List ℕ → Type 0) → Type 0
NewWorldsAreQuietFor m IsText =
    (w : WorldState ReplicaValue) (candidate : ReplicaValue) (index ticks : ℕ) (others : List ℕ)
    (r : RequestValue) → IsNewWorld m IsText w candidate index ticks others → NobodyChanges w → IsFresh w r
    → IsQuietFor m IsText w (number_of candidate) (number_of candidate ∷ others) r
