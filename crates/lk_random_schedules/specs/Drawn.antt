-- What each draw may give.
use Rattle.std.specs.Prelude.{◌≡◌, ◌≢◌, ℕ, ◌<◌, ◌≤◌, ◌+◌, true, false, ⊤}
use Rattle.std.specs.List.{AllByRecursion}
use Rattle.lk_members.specs.Effects.{RequestValue}
use Rattle.lk_node_interface.specs.declared.nudge_reason.NudgeReason.TheVariants.{TicksWithheld}
use Rattle.lk_random_schedules.specs.declared.event_kind.EventKind.{EventKind}
use Rattle.lk_random_schedules.specs.declared.event_kind.EventKind.TheVariants as kind
use Rattle.lk_random_schedules.specs.declared.plan.Plan.{Plan}
use Rattle.lk_sim.specs.declared.event.Event.{Event}
use Rattle.lk_sim.specs.declared.event.Event.TheVariants as event
use Rattle.lk_sim.specs.declared.event.GroupInput.{GroupInput}
use Rattle.lk_sim.specs.declared.event.GroupInput.TheVariants as group_input

-- one of the nodes 1 to 3, which were started, or node 4
abbrev pub IsNear : ℕ → Type 0
IsNear n = n ≤ 4

-- a request of one of four clients, whose number is one of the eight after this one
pub record IsNext (about : ℕ) (r : RequestValue) : Type 0 where
  pub client : r.client ≤ 4
  pub above : about < r.number
  pub near : r.number ≤ about + 8

-- a kind that the plan may draw: a Group or a Nudge only if the plan has them
abbrev pub IsKind : Plan → EventKind → Type 0
IsKind plan kind.Group = plan.groups ≡ true
IsKind plan kind.Nudge = plan.nudges ≡ true
IsKind plan _ = ⊤

-- a tick, or the place of one of so many datagrams, or 0; no nudge
abbrev pub IsPart : ℕ → GroupInput → Type 0
IsPart sent group_input.Tick = ⊤
IsPart sent (group_input.Nudge reason) = ⊥
IsPart sent (group_input.Deliver k) = k ≤ sent

-- an event that the plan may draw after so many datagrams were sent: any but a Start, and a Group or a Nudge only if
-- the plan has them; no nudge says that ticks are withheld
abbrev pub IsDrawn : Plan → ℕ → Event → Type 0
IsDrawn plan sent (event.Start n) = ⊥
IsDrawn plan sent (event.Nudge n reason) = (plan.nudges ≡ true) × IsNear n × (reason ≢ TicksWithheld)
IsDrawn plan sent (event.Restart n) = IsNear n
IsDrawn plan sent (event.Tick n) = IsNear n
IsDrawn plan sent (event.Compact n) = IsNear n
IsDrawn plan sent (event.Client n r) = IsNear n
IsDrawn plan sent (event.Deliver k) = k ≤ sent
IsDrawn plan sent (event.Group n group_inputs) = (plan.groups ≡ true) × IsNear n
    × AllByRecursion (IsPart sent) group_inputs.items
IsDrawn plan sent (event.Inject n bytes) = IsNear n
IsDrawn plan sent (event.Stop n x y) = IsNear n
IsDrawn plan sent (event.FailAt n count) = IsNear n × (count ≤ 4)
IsDrawn plan sent (event.Arm n count bytes) = IsNear n × (count ≤ 8)
