-- What an end leaves, in the words of the guarantee.
use Rattle.std.proofs.Common.{◌≡◌, ℕ, List, [], ◌∷◌, map, take, Option, Some, None, Contains, refl, ap, sym, ◌∙◌, subst}
use Rattle.std.proofs.Common.{inl, inr, arith}
use Rattle.std.proofs.lemmas.List.Elements.{Contains-append_right}
use Rattle.lk_memory_disk.specs.Memory.{Memory}
use Rattle.lk_disk.specs.Meters.{stopping}
use Rattle.lk_node_interface.specs.declared.input.Input.{Input}
use Rattle.lk_node_interface.specs.declared.input.Input.TheVariants as input
use Rattle.lk_node_interface.specs.declared.note.Note.{Note}
use Rattle.lk_replica.specs.Behaviours.{Behaviour}
use Rattle.lk_replica.specs.ReplicaValue.{ReplicaValue}
use Rattle.lk_sim_nodes.specs.Ends.{IsEndByCalls, end_by}
use Rattle.lk_sim.specs.Events.{ReplacesSeat, EndsByFault, IsGiven, IsGivenTogether, HasEffect, Wants, IsRefused}
use Rattle.lk_sim.specs.Groups.{given_by}
use Rattle.lk_sim.specs.Runs.{AreExecuted, StopsAt, Runs}
use Rattle.lk_sim.specs.WorldStates.{WorldState}
use Rattle.lk_sim.specs.Traces.{asked_note}
use Rattle.lk_sim_nodes.specs.declared.end.End.{End}
use Rattle.lk_sim_nodes.specs.declared.end.End.TheVariants.{Fault, Stopped}
use Rattle.lk_sim_nodes.specs.declared.refused.Refused.{Refused}
use Rattle.lk_sim.specs.declared.end.RunEnd.{RunEnd}
use Rattle.lk_sim.specs.declared.event.Event.{Event}
use Rattle.lk_sim.specs.declared.event.Event.TheVariants as event
use Rattle.lk_sim_nodes.specs.declared.sim_node.SimNode.{SimNode}
use Rattle.lk_sim_nodes.specs.declared.sim_node.RunState.TheVariants.{Down}
use Rattle.lk_sim.proofs.Networks.{at_set_here}
use Rattle.lk_guarantees.specs.Events.{IsFor, IsDown, ended_node, LeavesDown, IsEnding, EndsByDevice}
use Rattle.lk_guarantees.proofs.Refusing.{is_for}

is_ending : (x : End) → IsEndByCalls (Some x) → IsEnding x
is_ending (Fault n number) told = told
is_ending (Stopped n) told = tt

node_is : (o : Option ℕ) (n number : ℕ) → ended_node (end_by o n number) ≡ n
node_is None n number = refl
node_is (Some bytes) n number = refl

-- whom the event ended is down, and a call of its device is to blame, or a stop
abbrev Falls : WorldState ReplicaValue → Event → WorldState ReplicaValue → Type 0
Falls old e new =
    (x : End) → new.ended ≡ Some x → IsFor old.sent e (ended_node x) × IsDown new.sim_nodes (ended_node x) × IsEnding x

module _ (old new : WorldState ReplicaValue) where
  -- whoever is down was told of
  told_of : (e : Event) (n : ℕ) (x : End) → ended_node x ≡ n → new.ended ≡ Some x → IsEndByCalls (Some x)
      → IsFor old.sent e n → IsDown new.sim_nodes n → Falls old e new
  told_of e n x node ended told for_it is_down y is =
      let same : x ≡ y = one (sym ended ∙ is) in
      subst (λ (z : End). IsFor old.sent e (ended_node z) × IsDown new.sim_nodes (ended_node z) × IsEnding z) same
      (subst (IsFor old.sent e) (sym node) for_it, subst (IsDown new.sim_nodes) (sym node) is_down, is_ending x told)
    where
      one : Some x ≡ Some y → x ≡ y
      one f = cc f

  none_ended : (e : Event) → new.ended ≡ None → Falls old e new
  none_ended e none y is = absurd (cc (none, is))

  sits : (s t : SimNode ReplicaValue) (n : ℕ) (device : Memory) → ReplacesSeat old.sim_nodes new.sim_nodes s t
      → s.number ≡ n
      → t.run_state ≡ Down device → IsDown new.sim_nodes n
  sits s t n device k number run_state =
      let here = at_set_here old.sim_nodes k.index t k.at.0 in (
        t,
        device,
        subst (λ (l : List (SimNode ReplicaValue)). Contains l t) (sym k.sim_nodes) (k.index, here.0, here.1),
        k.number ∙ number,
        run_state,
      )

  -- it fell by a fault, or by an armed stop at a call
  fell : (Ends : ℕ → Memory → Type 0) (e : Event) (n : ℕ) (t : SimNode ReplicaValue) (asked : List Note)
      → EndsByFault Ends old new t asked → t.number ≡ n → IsFor old.sent e n → IsDown new.sim_nodes n → Falls old e new
  fell Ends e n t asked f number for_it is_down =
      told_of e n (end_by (stopping f.left.meter) t.number f.number)
      (node_is (stopping f.left.meter) t.number f.number ∙ number) f.ended
      (subst IsEndByCalls f.ended f.told) for_it is_down

  module _ (b : Behaviour ReplicaValue) where
    given_down : (e : Event) (n : ℕ) (x : Input) (asked : List Note) → IsFor old.sent e n
        → IsGiven b old new n x asked → Falls old e new
    given_down e n x asked for_it k = elim k.comes_to [
      | inl r ↦ none_ended e r.ended
      | inr (inl r) ↦ told_of e n (Stopped k.next.number) (k.replaces.number ∙ k.number) r.ended tt for_it
          (sits k.sim_node k.next n _ k.replaces k.number r.down)
      | inr (inr f) ↦
          fell _ e n k.next asked f (k.replaces.number ∙ k.number) for_it
          (sits k.sim_node k.next n _ k.replaces k.number f.down)
    ]

    together_down : (e : Event) (n : ℕ) (given : List Input) → IsFor old.sent e n
        → IsGivenTogether b old new n given → Falls old e new
    together_down e n given for_it k = elim k.comes_to [
      | inl r ↦ none_ended e r.ended
      | inr (inl r) ↦ told_of e n (Stopped k.next.number) (k.replaces.number ∙ k.number) r.ended tt for_it
          (sits k.sim_node k.next n _ k.replaces k.number r.down)
      | inr (inr f) ↦
          fell _ e n k.next [] f (k.replaces.number ∙ k.number) for_it
          (sits k.sim_node k.next n _ k.replaces k.number f.down)
    ]

    falls : (e : Event) → HasEffect b old e new → Falls old e new
    falls (event.Start n) k = elim k.comes [
      | inl r ↦ none_ended (event.Start n) r.ended
      | inr f ↦ fell _ (event.Start n) n k.sim_node [] f k.number refl (
        k.sim_node,
        _,
        subst (λ (l : List (SimNode ReplicaValue)). Contains l k.sim_node) (sym k.sim_nodes)
            (Contains-append_right old.sim_nodes (k.sim_node ∷ []) k.sim_node (0, omega arith, refl)),
        k.number,
        f.down,
      )
    ]
    falls (event.Restart n) k = elim k.comes [
      | inl r ↦ none_ended (event.Restart n) r.ended
      | inr f ↦ fell _ (event.Restart n) n k.next [] f (k.replaces.number ∙ k.number) refl
          (sits k.sim_node k.next n _ k.replaces k.number f.down)
    ]
    falls (event.Tick n) k = given_down (event.Tick n) n input.Tick [] refl k
    falls (event.Nudge n reason) k = given_down (event.Nudge n reason) n (input.Nudge reason) [] refl k
    falls (event.Compact n) k = elim k.comes_to [
      | inl r ↦ none_ended (event.Compact n) r.ended
      | inr f ↦ fell _ (event.Compact n) n k.next [] f (k.replaces.number ∙ k.number) refl
          (sits k.sim_node k.next n _ k.replaces k.number f.down)
    ]
    falls (event.Client n q) k = none_ended (event.Client n q) k.ended
    falls (event.Deliver i) k =
        given_down (event.Deliver i) k.node (input.Datagram k.datagram.bytes) []
        (is_for old.sent i k.datagram k.node k.stands k.bound) k.given
    falls (event.Group n group_inputs) k =
        together_down (event.Group n group_inputs) n (map (given_by old.sent) group_inputs.items) refl k
    falls (event.Inject n bytes) k =
        given_down (event.Inject n bytes) n (input.Datagram bytes.items) (asked_note k.request) refl k.given
    falls (event.Stop n x y) k = none_ended (event.Stop n x y) k.ended
    falls (event.FailAt n count) k = none_ended (event.FailAt n count) k.ended
    falls (event.Arm n count bytes) k = none_ended (event.Arm n count bytes) k.ended

    pub leaves_down : (e : Event) → HasEffect b old e new → LeavesDown old e new
    leaves_down e k x is = let f = falls e k x is in (f.0, f.1)

    pub ends_by_device : (e : Event) → HasEffect b old e new → EndsByDevice new.ended
    ends_by_device e k x is = (falls e k x is).2

-- ---- a run

module _ (b : Behaviour ReplicaValue) where
  same_end : (old new : WorldState ReplicaValue) → new ≡ old → new.ended ≡ old.ended
  same_end old new same = ap (λ (w : WorldState ReplicaValue). w.ended) same

  wants_end : (old new : WorldState ReplicaValue) (e : Event) → Wants b old e new → new.ended ≡ old.ended
  wants_end old new (event.Start n) k = same_end old new k
  wants_end old new (event.Restart n) k = k.ended
  wants_end old new (event.Tick n) k = k.ended
  wants_end old new (event.Nudge n reason) k = k.ended
  wants_end old new (event.Compact n) k = k.ended
  wants_end old new (event.Client n q) k = same_end old new k
  wants_end old new (event.Deliver i) k = elim k [ inl same ↦ same_end old new same | inr h ↦ h.4.ended ]
  wants_end old new (event.Group n group_inputs) k = elim k [ inl same ↦ same_end old new same.0 | inr h ↦ h.ended ]
  wants_end old new (event.Inject n bytes) k = elim k [ inl same ↦ same_end old new same.0 | inr h ↦ h.ended ]
  wants_end old new (event.Stop n x y) k = absurd k
  wants_end old new (event.FailAt n count) k = absurd k
  wants_end old new (event.Arm n count bytes) k = absurd k

  refused_end : (old new : WorldState ReplicaValue) (e : Event) (r : Refused) → IsRefused b old e r new
      → new.ended ≡ old.ended
  refused_end old new e r k =
      elim k [ inl same ↦ same_end old new same.1 | inr wants ↦ wants_end old new e wants.2 ]

  all_end : (es : List Event) (old new : WorldState ReplicaValue) → AreExecuted b es old new → EndsByDevice old.ended
      → EndsByDevice new.ended
  all_end [] old new p ends = subst EndsByDevice (sym (same_end old new p)) ends
  all_end (e ∷ es) old new p ends = all_end es p.0 new p.2 (ends_by_device old p.0 b e p.1.1)

  run_end : (events : List Event) (done : ℕ) (o : Option Refused) (last new : WorldState ReplicaValue)
      → StopsAt b events done o last new → EndsByDevice last.ended → EndsByDevice new.ended
  run_end events done None last new s ends = subst EndsByDevice (sym (same_end last new s.1)) ends
  run_end events done (Some r) last new s ends =
      subst EndsByDevice (sym (refused_end last new s.0 r s.2)) ends

  pub runs_end : (old : WorldState ReplicaValue) (events : List Event) (how : RunEnd) (new : WorldState ReplicaValue)
      → Runs b old events how new → EndsByDevice old.ended → EndsByDevice new.ended
  runs_end old events how new r ends =
      run_end events how.done how.refused r.last new r.stops
      (all_end (take how.done events) old r.last r.are_executed ends)
