-- What a run of events does: some events in order, up to the first that is rejected.
use Rattle.std.specs.Prelude.{◌≡◌, ℕ, List, [], ◌∷◌, length, take, slice_get, Option, Some, None}
use Rattle.lk_replica.specs.Behaviours.{Behaviour}
use Rattle.lk_sim.specs.Events.{IsExecuted, IsRefused}
use Rattle.lk_sim.specs.WorldStates.{WorldState}
use Rattle.lk_sim.specs.declared.end.RunEnd.{RunEnd}
use Rattle.lk_sim.specs.declared.event.Event.{Event}
use Rattle.lk_sim_nodes.specs.declared.refused.Refused.{Refused}

-- the events are done, one after another
abbrev pub AreExecuted : {R : Type 0} → Behaviour R → List Event → WorldState R → WorldState R → Type 0
AreExecuted b [] old new = new ≡ old
AreExecuted {R = R} b (e ∷ es) old new = (mid : WorldState R) × IsExecuted b old e mid × AreExecuted b es mid new

-- all events were done, or the next one was rejected
abbrev pub StopsAt : {R : Type 0} → Behaviour R → List Event → ℕ → Option Refused → WorldState R → WorldState R → Type 0
StopsAt b events done None last new = (done ≡ length events) × (new ≡ last)
StopsAt b events done (Some r) last new = (e : Event) × (slice_get events done ≡ Some e) × IsRefused b last e r new

-- this many events were done in order, and then the run ended like this
pub record Runs {R : Type 0} (b : Behaviour R) (old : WorldState R) (events : List Event) (how : RunEnd)
    (new : WorldState R) : Type 0 where
  pub last : WorldState R
  pub are_executed : AreExecuted b (take how.done events) old last
  pub stops : StopsAt b events how.done how.refused last new
