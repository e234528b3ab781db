-- Random schedules: which events happen in their worlds.
use Rattle.std.specs.Prelude.{◌≡◌, ℕ, zero, suc, ◌⊎◌, ⊤, [], ◌∷◌, length}
use Rattle.lk_node.specs.Histories.{Genesis}
use Rattle.lk_replica.specs.Behaviours.{Behaviour}
use Rattle.lk_sim.specs.Events.{IsExecuted}
use Rattle.lk_sim.specs.Refusals.{IsRejectedFor}
use Rattle.lk_sim.specs.WorldStates.{WorldState}
use Rattle.lk_sim.specs.declared.event.Event.{Event}
use Rattle.lk_sim.specs.declared.event.Event.TheVariants.{Start, Restart, Tick}
use Rattle.lk_sim_nodes.specs.declared.refused.Refused.{Refused}
use Rattle.lk_sim_nodes.specs.declared.refused.Refused.TheVariants.{NotUp, WorldFull, WorldMemory}
use Rattle.lk_random_schedules.specs.Drawn.{IsDrawn}
use Rattle.lk_random_schedules.specs.declared.plan.Plan.{Plan}

-- cluster 5, alpha 2, and nodes 1, 2 and 3 at the ports 7001 to 7003
pub record IsOfThree (g : Genesis) : Type 0 where
  pub cluster : g.cluster ≡ 5
  pub alpha : g.alpha ≡ 2
  pub members : g.members ≡ record { node = 1; port = 7001 } ∷ record { node = 2; port = 7002 }
      ∷ record { node = 3; port = 7003 } ∷ []

-- a world of three nodes in which nothing has happened
pub record IsNew {R : Type 0} (w : WorldState R) : Type 0 where
  pub genesis : IsOfThree w.genesis
  pub sim_nodes : w.sim_nodes ≡ []
  pub sent : w.sent ≡ []
  pub trace : w.trace ≡ []

-- ---- a drawn event

-- the reason of a rejection is neither room nor memory, so the event is replaced
abbrev pub IsReplaced : Refused → Type 0
IsReplaced WorldFull = ⊥
IsReplaced WorldMemory = ⊥
IsReplaced _ = ⊤

-- the replacement of a rejected event: node 1 ticks, or restarts if it is down
abbrev pub ReplacesEvent : {R : Type 0} → Behaviour R → WorldState R → WorldState R → Type 0
ReplacesEvent b old new = IsExecuted b old (Tick 1) new ⊎ (IsRejectedFor old (Tick 1) NotUp
    × IsExecuted b old (Restart 1) new)

-- the event happens, or its replacement if it is rejected for a reason other than room and memory
abbrev pub Happens : {R : Type 0} → Behaviour R → WorldState R → Event → WorldState R → Type 0
Happens b old e new = IsExecuted b old e new ⊎ ((r : Refused) × IsReplaced r × IsRejectedFor old e r
    × ReplacesEvent b old new)

-- ---- a run

-- the three nodes are started, one after another
pub record Starts {R : Type 0} (b : Behaviour R) (old new : WorldState R) : Type 0 where
  pub one : WorldState R
  pub two : WorldState R
  pub first : IsExecuted b old (Start 1) one
  pub second : IsExecuted b one (Start 2) two
  pub third : IsExecuted b two (Start 3) new

-- an event that the plan may draw happens
abbrev pub Next : {R : Type 0} → Behaviour R → Plan → WorldState R → WorldState R → Type 0
Next b plan old new = (e : Event) × IsDrawn plan (length old.sent) e × Happens b old e new

-- so many of them happen, one after another
abbrev pub Draws : {R : Type 0} → Behaviour R → Plan → ℕ → WorldState R → WorldState R → Type 0
Draws b plan zero old new = new ≡ old
Draws {R = R} b plan (suc n) old new = (mid : WorldState R) × Draws b plan n old mid × Next b plan mid new

-- the three nodes are started, and then so many drawn events happen
pub record Fuzzes {R : Type 0} (b : Behaviour R) (plan : Plan) (old new : WorldState R) : Type 0 where
  pub started : WorldState R
  pub starts : Starts b old started
  pub draws : Draws b plan plan.count started new
