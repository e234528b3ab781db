-- Nodes of a candidate's majority that lack commands in place of which another one keeps a snapshot: they are sent
-- parts of that, after a rejection.
use Rattle.std.specs.Prelude.{◌≡◌, ℕ, ◌+◌, ◌*◌, ◌<◌, ◌≤◌, List, ◌∷◌, length, Contains}
use Rattle.lk_types.specs.Limits.{max_part}
use Rattle.lk_messages.specs.Values.{PartValue}
use Rattle.lk_messages.specs.declared.message.Content.TheVariants as content
use Rattle.lk_messages.specs.declared.message.Nack.{Nack}
use Rattle.lk_messages.specs.declared.message.NodeMessage.TheVariants as kinds
use Rattle.lk_state.specs.Meanings.{Meaning}
use Rattle.lk_learner.specs.Learners.{executed, wanted}
use Rattle.lk_learner.specs.Parts.{AreParts}
use Rattle.lk_progress.specs.Gathering.{parts_from}
use Rattle.lk_replica.specs.ReplicaValue.{ReplicaValue}
use Rattle.lk_sim.specs.WorldStates.{WorldState}
use Rattle.lk_world_progress.specs.Balloting.{HasSentTo}
use Rattle.lk_world_progress.specs.Delivering.{Delivers, DeliversInTurn, Hears}
use Rattle.lk_world_progress.specs.Stepping.{IsUpAs}
use Rattle.lk_world_feeding.specs.Gathering.{HasGathered, HasGotOn, count_of, position_of, text_of}
use Rattle.lk_world_leftovers.specs.Lagging.{MayContend}

-- The first node takes a rejection of the other one, which tells that this has executed more, and asks for the rest.
-- The other one takes that, and the first one takes the parts of its snapshot that it then sends, in order. The
-- snapshot is above what the first one has executed, and what this has gathered is the beginning of it, or nothing. The
-- other one has no rebase due when it is asked, nor the first one when it takes a part.
pub record TakesParts (m : Meaning) (IsText : List ℕ → Type 0) (n other : ℕ) (old new : WorldState ReplicaValue)
    : Type 0 where
  pub behind : ReplicaValue
  pub up : IsUpAs old n behind
  pub ahead : ReplicaValue
  pub other_up : IsUpAs old other ahead
  pub above : executed behind.node.learner < position_of ahead
  pub gathered : HasGathered behind ahead
  pub nack : Nack
  pub tells : executed behind.node.learner < nack.executed
  pub told : WorldState ReplicaValue
  pub hears : Hears m IsText n (content.Node other (kinds.Nack nack)) old told
  pub served : WorldState ReplicaValue
  pub serves : Delivers m IsText other (content.Node n (kinds.Want (wanted behind.node.learner))) told served
  pub parts : List PartValue
  pub are : AreParts (position_of ahead) (text_of ahead) (count_of behind) parts
  pub takes : DeliversInTurn m IsText n (parts_from other parts) served new

-- each of these nodes is up, and has executed no less than before; and if it is not this one, as much
pub record NobodyLoses (nodes : List ℕ) (n : ℕ) (old new : WorldState ReplicaValue) : Type 0 where
  pub keeps : (j : ℕ) → Contains nodes j → (r : ReplicaValue) → IsUpAs old j r
      → (q : ReplicaValue) × IsUpAs new j q × (executed r.node.learner ≤ executed q.node.learner)
  pub rests : (j : ℕ) → Contains nodes j → (j ≡ n → ⊥) → (r q : ReplicaValue) → IsUpAs old j r → IsUpAs new j q
      → executed q.node.learner ≡ executed r.node.learner

-- What it asks and the parts were sent before they are delivered. It has executed as much as the snapshot if that is
-- whole by now, and otherwise has gathered it up to there. All of them may contend as before.
pub record HasTakenParts (m : Meaning) (IsText : List ℕ → Type 0) (x e n other : ℕ) (others : List ℕ) (last : ℕ)
    (old new : WorldState ReplicaValue) (k : TakesParts m IsText n other old new) : Type 0 where
  pub asks : HasSentTo k.told n other (kinds.Want (wanted k.behind.node.learner))
  pub sends : (p : PartValue) → Contains k.parts p → HasSentTo k.served other n (kinds.Part p)
  pub gets_on : HasGotOn n k.behind k.ahead (count_of k.behind + length k.parts * max_part) new
  pub f : ℕ
  pub grows : e ≤ f
  pub may : MayContend m IsText new x f others last
  pub nobody : NobodyLoses (x ∷ others) n old new

-- so it is if the candidate takes parts of another one, or another one takes the candidate's
abbrev pub PartsAreTaken : Meaning → (List ℕ → Type 0) → Type 0
PartsAreTaken m IsText = (x e n : ℕ) (others : List ℕ) (last : ℕ) (old new : WorldState ReplicaValue)
    → MayContend m IsText old x e others last → Contains others n
    → ((k : TakesParts m IsText x n old new) → HasTakenParts m IsText x e x n others last old new k)
    × ((k : TakesParts m IsText n x old new) → HasTakenParts m IsText x e n x others last old new k)
