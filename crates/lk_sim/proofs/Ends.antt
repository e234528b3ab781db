-- By which faults a node ends in an event.
use Rattle.std.proofs.Common.{◌≡◌, ℕ, Option, Some, None, sym, subst, inl, inr}
use Rattle.std.specs.Prelude.{List, [], ◌∷◌, map, take}
use Rattle.lk_memory_disk.specs.Memory.{Memory, empty}
use Rattle.lk_replica.specs.Behaviours.{Behaviour}
use Rattle.lk_node_interface.specs.declared.input.Input.{Input}
use Rattle.lk_node_interface.specs.declared.input.Input.TheVariants as input
use Rattle.lk_node_interface.specs.declared.note.Note.{Note}
use Rattle.lk_sim_nodes.specs.Ends.{IsEndByCalls}
use Rattle.lk_sim.specs.Events.{IsGiven, IsGivenTogether, ComesUp, HasEffect, IsExecuted, Wants, IsRefused}
use Rattle.lk_sim.specs.Groups.{given_by}
use Rattle.lk_sim.specs.Runs.{AreExecuted, StopsAt, Runs}
use Rattle.lk_sim.specs.WorldStates.{WorldState}
use Rattle.lk_sim.specs.Traces.{asked_note}
use Rattle.lk_sim.specs.declared.end.RunEnd.{RunEnd}
use Rattle.lk_sim.specs.declared.event.Event.{Event}
use Rattle.lk_sim.specs.declared.event.Event.TheVariants as event
use Rattle.lk_sim_nodes.specs.declared.refused.Refused.{Refused}
use Rattle.lk_sim_nodes.specs.declared.sim_node.SimNode.{SimNode}
use Rattle.lk_sim_nodes.proofs.Faults.{told_as}

module _ {R : Type 0} (b : Behaviour R) where
  nothing_told : (new : WorldState R) → new.ended ≡ None → IsEndByCalls new.ended
  nothing_told new is = told_as new.ended None is tt

  come_told : (old new : WorldState R) (t : SimNode R) (d : Memory) → ComesUp b old new t d → IsEndByCalls new.ended
  come_told old new t d c = elim c [ inl r ↦ nothing_told new r.ended | inr f ↦ f.told ]

  given_told : (old new : WorldState R) (n : ℕ) (x : Input) (asked : List Note)
      → IsGiven b old new n x asked → IsEndByCalls new.ended
  given_told old new n x asked k =
      elim k.comes_to [
        | inl r ↦ nothing_told new r.ended
        | inr (inl r) ↦
            told_as new.ended _ r.ended tt
        | inr (inr f) ↦ f.told
      ]

  together_told : (old new : WorldState R) (n : ℕ) (given : List Input)
      → IsGivenTogether b old new n given → IsEndByCalls new.ended
  together_told old new n given k =
      elim k.comes_to [
        | inl r ↦ nothing_told new r.ended
        | inr (inl r) ↦
            told_as new.ended _ r.ended tt
        | inr (inr f) ↦ f.told
      ]

  brings_told : (old new : WorldState R) (e : Event) → HasEffect b old e new → IsEndByCalls new.ended
  brings_told old new (event.Start n) k = come_told old new k.sim_node empty k.comes
  brings_told old new (event.Restart n) k = come_told old new k.next k.device k.comes
  brings_told old new (event.Tick n) k = given_told old new n input.Tick [] k
  brings_told old new (event.Nudge n reason) k = given_told old new n (input.Nudge reason) [] k
  brings_told old new (event.Compact n) k = elim k.comes_to [ inl p ↦ nothing_told new p.ended | inr f ↦ f.told ]
  brings_told old new (event.Client n r) k = nothing_told new k.ended
  brings_told old new (event.Deliver i) k = given_told old new k.node (input.Datagram k.datagram.bytes) [] k.given
  brings_told old new (event.Group n group_inputs) k = together_told old new n (map
      (given_by old.sent) group_inputs.items) k
  brings_told old new (event.Inject n bytes) k =
      given_told old new n (input.Datagram bytes.items) (asked_note k.request) k.given
  brings_told old new (event.Stop n x y) k = nothing_told new k.ended
  brings_told old new (event.FailAt n count) k = nothing_told new k.ended
  brings_told old new (event.Arm n count bytes) k = nothing_told new k.ended

  pub done_told : (old new : WorldState R) (e : Event) → IsExecuted b old e new → IsEndByCalls new.ended
  done_told old new e k = brings_told old new e k.1

  same_told : (old new : WorldState R) → new ≡ old → IsEndByCalls old.ended → IsEndByCalls new.ended
  same_told old new same told = subst (λ (z : WorldState R). IsEndByCalls z.ended) (sym same) told

  wants_told : (old new : WorldState R) (e : Event) → Wants b old e new → IsEndByCalls old.ended
      → IsEndByCalls new.ended
  wants_told old new (event.Start m) k told = same_told old new k told
  wants_told old new (event.Restart m) k told = told_as new.ended old.ended k.ended told
  wants_told old new (event.Tick m) k told = told_as new.ended old.ended k.ended told
  wants_told old new (event.Nudge m reason) k told = told_as new.ended old.ended k.ended told
  wants_told old new (event.Compact m) k told = told_as new.ended old.ended k.ended told
  wants_told old new (event.Client m r) k told = same_told old new k told
  wants_told old new (event.Deliver i) k told =
      elim k [ inl same ↦ same_told old new same told | inr h ↦ told_as new.ended old.ended h.4.ended told ]
  wants_told old new (event.Group m group_inputs) k told =
      elim k [ inl same ↦ same_told old new same.0 told | inr h ↦ told_as new.ended old.ended h.ended told ]
  wants_told old new (event.Inject m bytes) k told =
      elim k [ inl same ↦ same_told old new same.0 told | inr h ↦ told_as new.ended old.ended h.ended told ]
  wants_told old new (event.Stop m x y) k told = absurd k
  wants_told old new (event.FailAt m count) k told = absurd k
  wants_told old new (event.Arm m count bytes) k told = absurd k

  pub refused_told : (old new : WorldState R) (e : Event) (r : Refused) → IsEndByCalls old.ended
      → IsRefused b old e r new → IsEndByCalls new.ended
  refused_told old new e r told k =
      elim k [ inl same ↦ same_told old new same.1 told | inr wants ↦ wants_told old new e wants.2 told ]

  passes_told : (es : List Event) (old new : WorldState R) → AreExecuted b es old new → IsEndByCalls old.ended
      → IsEndByCalls new.ended
  passes_told [] old new p told = same_told old new p told
  passes_told (e ∷ es) old new p told = passes_told es p.0 new p.2 (done_told old p.0 e p.1)

  stops_told : (es : List Event) (done : ℕ) (o : Option Refused) (last new : WorldState R)
      → StopsAt b es done o last new
      → IsEndByCalls last.ended → IsEndByCalls new.ended
  stops_told es done None last new k told = same_told last new k.1 told
  stops_told es done (Some r) last new k told = refused_told last new k.0 r told k.2

  pub run_told : (old new : WorldState R) (es : List Event) (how : RunEnd) → Runs b old es how new
      → IsEndByCalls old.ended → IsEndByCalls new.ended
  run_told old new es how k told =
      stops_told es how.done how.refused k.last new k.stops (passes_told
      (take how.done es) old k.last k.are_executed told)
