-- The world of a new cluster: its nodes know the genesis and nothing else, and once one of them is due, it is quiet.
use Rattle.std.specs.Prelude.{◌≡◌, ℕ, ◌+◌, false, min, List, ◌∷◌, Contains}
use Rattle.lk_members.specs.Majorities.{IsMajority}
use Rattle.lk_state.specs.Meanings.{Meaning}
use Rattle.lk_node_interface.specs.Ticks.{max_ticks, is_enough}
use Rattle.lk_node.specs.Waiting.{index_of}
use Rattle.lk_progress.specs.Beginnings.{IsDueIn, new_node}
use Rattle.lk_replica.specs.ReplicaValue.{ReplicaValue}
use Rattle.lk_sim.specs.WorldStates.{WorldState}
use Rattle.lk_sim.specs.declared.event.Event.TheVariants as event
use Rattle.lk_world_progress.specs.Delivering.{AreDistinct}
use Rattle.lk_world_progress.specs.Exchanging.{IsQuietWorld, number_of}
use Rattle.lk_world_progress.specs.Stepping.{GoesWell, Holds, IsUpAs}

-- the node of this number is up, and is as in a new cluster after this many ticks
abbrev pub IsNewIn : Meaning → WorldState ReplicaValue → ℕ → ℕ → ReplicaValue → Type 0
IsNewIn m w n ticks r = IsUpAs w n r × (r.node ≡ new_node m w.genesis n ticks)

-- a node that starts with empty disks is such a node, to which no tick has come
abbrev pub StartsAreNew : Meaning → (List ℕ → Type 0) → Type 0
StartsAreNew m IsText = (old new : WorldState ReplicaValue) (n : ℕ) → GoesWell m IsText old (event.Start n) new
    → (r : ReplicaValue) × IsNewIn m new n 0 r

-- and with each tick at which it is not due it is such a node, to which one more has come
abbrev pub TicksLeaveNew : Meaning → (List ℕ → Type 0) → Type 0
TicksLeaveNew m IsText = (old new : WorldState ReplicaValue) (n ticks : ℕ) (r : ReplicaValue) → IsNewIn m old n ticks r
    → is_enough (min (ticks + 1) max_ticks) (index_of r.node) ≡ false → GoesWell m IsText old (event.Tick n) new
    → (q : ReplicaValue) × IsNewIn m new n (min (ticks + 1) max_ticks) q

-- the candidate is new, and due with its next tick; these others are new too, and with it a majority of the genesis
pub record IsNewWorld (m : Meaning) (IsText : List ℕ → Type 0) (w : WorldState ReplicaValue) (candidate : ReplicaValue)
    (index ticks : ℕ) (others : List ℕ) : Type 0 where
  pub holds : Holds m IsText w
  pub new : IsNewIn m w (number_of candidate) ticks candidate
  pub due : IsDueIn w.genesis (number_of candidate) index ticks
  pub voters : (n : ℕ) → Contains others n → (r : ReplicaValue) × (passed : ℕ) × IsNewIn m w n passed r
  pub distinct : AreDistinct (number_of candidate ∷ others)
  pub majority : IsMajority (number_of candidate ∷ others) w.genesis.members

abbrev pub NewWorldsAreQuiet : Meaning → (List ℕ → Type 0) → Type 0
NewWorldsAreQuiet m IsText =
    (w : WorldState ReplicaValue) (candidate : ReplicaValue) (index ticks : ℕ) (others : List ℕ)
    → IsNewWorld m IsText w candidate index ticks others
    → IsQuietWorld m IsText w candidate w.genesis.members others
