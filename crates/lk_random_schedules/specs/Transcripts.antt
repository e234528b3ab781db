-- The script of the events that were executed in a world.
use Rattle.std.specs.Prelude.{◌≡◌, ℕ, Bool, true, false, List, [], ◌++◌}
use Rattle.lk_replica.specs.Behaviours.{Behaviour}
use Rattle.lk_script_lines.specs.EventLines.{lines_for}
use Rattle.lk_sim.specs.Runs.{AreExecuted}
use Rattle.lk_sim.specs.WorldStates.{WorldState}
use Rattle.lk_sim.specs.declared.event.Event.{Event}
use Rattle.lk_random_schedules.specs.declared.transcript.Transcript.{Transcript}

-- the lines of events, if lines are kept
abbrev pub kept_lines : Bool → List Event → List ℕ
kept_lines false events = []
kept_lines true events = lines_for events

-- these events happened, one after another, and their lines were added
abbrev pub Adds : {R : Type 0} → Behaviour R → List Event → WorldState R → Transcript → WorldState R
    → Transcript → Type 0
Adds b events old t new u =
    AreExecuted b events old new × (u.is_kept ≡ t.is_kept)
    × (u.text.items ≡ t.text.items ++ kept_lines t.is_kept events)

-- some events happened, and their lines were added
abbrev pub AddsSome : {R : Type 0} → Behaviour R → WorldState R → Transcript → WorldState R → Transcript → Type 0
AddsSome b old t new u = (events : List Event) × Adds b events old t new u
