-- Worlds that events have brought about, none of which has asked to change the members: a majority may heal.
use Rattle.std.specs.Prelude.{◌≡◌, ◌⊎◌, ℕ, ◌<◌, None, Some, List, [], ◌∷◌, Contains}
use Rattle.lk_types.specs.declared.command.Request.{Request as RequestValue}
use Rattle.lk_types.specs.declared.genesis.Genesis.{Genesis}
use Rattle.lk_members.specs.Majorities.{IsMajority}
use Rattle.lk_members.specs.Rosters.{IsChange}
use Rattle.lk_state.specs.Meanings.{Meaning}
use Rattle.lk_replica.specs.ReplicaValue.{ReplicaValue}
use Rattle.lk_sim.specs.Events.{IsExecuted, IsRefused}
use Rattle.lk_sim.specs.Heard.{IsRequestIn}
use Rattle.lk_sim.specs.Runs.{Runs}
use Rattle.lk_sim.specs.WorldStates.{WorldState}
use Rattle.lk_sim.specs.declared.end.RunEnd.{RunEnd}
use Rattle.lk_sim.specs.declared.event.Event.{Event}
use Rattle.lk_sim.specs.declared.event.Event.TheVariants as event
use Rattle.lk_sim_nodes.specs.declared.refused.Refused.{Refused}
use Rattle.lk_world_progress.specs.Delivering.{AreDistinct}
use Rattle.lk_world_progress.specs.Stepping.{behaviour}
use Rattle.lk_healing.specs.Heals.{HasRoundOnDisks, MayHeal}
use Rattle.lk_healing.specs.Restarts.{AreStarted}

-- ---- a history

-- the world in which no node was started and nothing was sent
abbrev pub new_world : Genesis → WorldState ReplicaValue
new_world genesis = record { genesis = genesis; sim_nodes = []; sent = []; trace = []; ended = None }

-- `apply` has executed the event, or rejected it
abbrev pub ComesOf : Meaning → (List ℕ → Type 0) → Event → WorldState ReplicaValue → WorldState ReplicaValue → Type 0
ComesOf m IsText e old new =
    IsExecuted (behaviour m IsText) old e new ⊎ ((r : Refused) × IsRefused (behaviour m IsText) old e r new)

-- and so each of these, in order
abbrev pub ComesOfAll : Meaning → (List ℕ → Type 0) → List Event → WorldState ReplicaValue
    → WorldState ReplicaValue → Type 0
ComesOfAll m IsText [] old new = new ≡ old
ComesOfAll m IsText (e ∷ es) old new =
    (mid : WorldState ReplicaValue) × ComesOf m IsText e old mid × ComesOfAll m IsText es mid new

-- what `run` does comes of some of its events
abbrev pub RunsAreHistories : Meaning → (List ℕ → Type 0) → Type 0
RunsAreHistories m IsText = (events : List Event) (how : RunEnd) (old new : WorldState ReplicaValue)
    → Runs (behaviour m IsText) old events how new
    → (es : List Event) × ((e : Event) → Contains es e → Contains events e) × ComesOfAll m IsText es old new

-- ---- what is asked

-- the event asks for this: as a client's request, or in bytes that no node has sent
abbrev pub IsAskedBy : RequestValue → Event → Type 0
IsAskedBy q (event.Client n r) = q ≡ r
IsAskedBy q (event.Inject n bytes) = IsRequestIn bytes.items (Some q)
IsAskedBy q _ = ⊥

-- The world has come of these events, from a new one. None of them has asked to change the members.
pub record NeverChanges (m : Meaning) (IsText : List ℕ → Type 0) (w : WorldState ReplicaValue) (events : List Event)
    : Type 0 where
  pub comes : ComesOfAll m IsText events (new_world w.genesis) w
  pub none : (e : Event) (q : RequestValue) → Contains events e → IsAskedBy q e → IsChange q.op → ⊥

-- none of these events has asked with this number or a greater one for the same client
abbrev pub AsksAnew : List Event → RequestValue → Type 0
AsksAnew events r = (e : Event) (q : RequestValue) → Contains events e → IsAskedBy q e → q.client ≡ r.client
    → q.number < r.number

-- ---- who heals

-- Any majority of the members meets the premises of `heal`, for any request that is new, if its nodes are different,
-- each was started, and each has a round left.
abbrev pub UnchangedWorldsMayHeal : Meaning → (List ℕ → Type 0) → Type 0
UnchangedWorldsMayHeal m IsText = (w : WorldState ReplicaValue) (events : List Event) (x : ℕ) (others : List ℕ)
    (r : RequestValue) → NeverChanges m IsText w events → AreDistinct (x ∷ others)
    → IsMajority (x ∷ others) w.genesis.members → AreStarted w (x ∷ others)
    → ((n : ℕ) → Contains (x ∷ others) n → HasRoundOnDisks w n) → AsksAnew events r → MayHeal w x (x ∷ others) r
