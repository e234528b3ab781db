-- Events in a row.
use Rattle.std.proofs.Common.{◌≡◌, ℕ, suc, List, [], ◌∷◌, ◌++◌, map, take, slice_get, Some, None, refl, sym, ap, ◌∙◌}
use Rattle.std.proofs.Common.{subst, inl, inr, append_assoc, append-nil}
use Rattle.lk_memory_disk.specs.Memory.{Memory, empty}
use Rattle.lk_replica.specs.Behaviours.{Behaviour}
use Rattle.std.specs.Prelude.{Option, Result, Ok, Err, Vec, OnOk, IfErr, IsErrAnd}
use Rattle.std.specs.Global.{Global}
use Rattle.lk_node_interface.specs.declared.input.Input.{Input}
use Rattle.lk_node_interface.specs.declared.input.Input.TheVariants as input
use Rattle.lk_node_interface.specs.declared.note.Note.{Note}
use Rattle.lk_sim.specs.Events.{IsGiven, IsGivenTogether, ComesUp, HasEffect, IsExecuted, Wants, IsRefused}
use Rattle.lk_sim.specs.Events.{IsNotInjected}
use Rattle.lk_sim.specs.Events.{IsNotGrouped, Grows}
use Rattle.lk_replica.specs.Together.{sent_of}
use Rattle.lk_sim.specs.Groups.{given_by}
use Rattle.lk_sim.specs.declared.event.GroupInput.{GroupInput}
use Rattle.lk_sim.specs.Runs.{AreExecuted, StopsAt, Runs}
use Rattle.lk_sim.specs.WorldStates.{WorldState}
use Rattle.lk_sim.specs.Traces.{asked_note}
use Rattle.lk_sim.specs.declared.end.RunEnd.{RunEnd}
use Rattle.lk_sim.specs.declared.event.Event.{Event}
use Rattle.lk_sim.specs.declared.event.Event.TheVariants as event
use Rattle.lk_sim_nodes.specs.declared.refused.Refused.{Refused}
use Rattle.lk_sim_nodes.specs.declared.sim_node.SimNode.{SimNode}
use Rattle.lk_sim_nodes.proofs.Tellings.{take_next}

module _ {R : Type 0} (b : Behaviour R) where
  passes_on : (es : List Event) (e : Event) (old mid new : WorldState R) → AreExecuted b es old mid
      → IsExecuted b mid e new
      → AreExecuted b (es ++ e ∷ []) old new
  passes_on [] e old mid new p d = (new, subst (λ z. IsExecuted b z e new) p d, refl)
  passes_on (x ∷ es) e old mid new p d = (p.0, p.1, passes_on es e p.0 mid new p.2 d)

  -- one event more
  pub passes_next : (es : List Event) (i : ℕ) (e : Event) (old mid new : WorldState R) → slice_get es i ≡ Some e
      → AreExecuted b (take i es) old mid → IsExecuted b mid e new → AreExecuted b (take (suc i) es) old new
  passes_next es i e old mid new at p d =
      subst (λ l. AreExecuted b l old new) (sym (take_next es i e at)) (passes_on (take i es) e old mid new p d)

-- what follows of each refusal
pub if_err : {A E : Type 0} (P Q : E → Type 0) (r : Result A E) → ((e : E) → P e → Q e) → IfErr r P → IfErr r Q
if_err P Q (Ok x) f p = tt
if_err P Q (Err e) f p = f e p

-- it was refused so
pub err_as : {A E : Type 0} (r : Result A E) (f : E) (P : E → Type 0) → IsErrAnd r (λ e. e ≡ f) → P f → IfErr r P
err_as (Ok x) f P is p = absurd is
err_as (Err e) f P is p = subst P (sym is) p

-- bytes that were refused are a refused event
pub injected_refused : {R : Type 0} (b : Behaviour R) (old new : WorldState R) (n : ℕ) (bytes : Vec ℕ Global)
    (r : Refused)
    → IsNotInjected b old n bytes.items r new → IsRefused b old (event.Inject n bytes) r new
injected_refused b old new n bytes r k = elim k [
  | inl why ↦ inl why
  | inr wants ↦ inr wants
]

-- a group that was refused is a refused event
pub group_refused : {R : Type 0} (b : Behaviour R) (old new : WorldState R) (n : ℕ)
    (group_inputs : Vec GroupInput Global)
    (r : Refused)
    → IsNotGrouped b old n group_inputs.items r new → IsRefused b old (event.Group n group_inputs) r new
group_refused b old new n group_inputs r k = elim k [
  | inl why ↦ inl why
  | inr wants ↦ inr wants
]

-- ---- the datagrams only grow

-- whatever a call came to
pub of_result : {A E : Type 0} (G P : Type 0) (Q : E → Type 0) (r : Result A E) → (P → G) → ((e : E) → Q e → G)
    → OnOk r P → IfErr r Q → G
of_result G P Q (Ok x) p q a b = p a
of_result G P Q (Err e) p q a b = q e b

module _ {R : Type 0} (b : Behaviour R) where
  nothing_more : (old new : WorldState R) → new ≡ old → Grows old new
  nothing_more old new same = ([], ap (λ (z : WorldState R). z.sent) same ∙ sym (append-nil old.sent))

  come_grows : (old new : WorldState R) (t : SimNode R) (d : Memory) → ComesUp b old new t d → Grows old new
  come_grows old new t d c = elim c [ inl r ↦ ([], r.adds.sent) | inr f ↦ ([], f.adds.sent) ]

  given_grows : (old new : WorldState R) (n : ℕ) (x : Input) (asked : List Note)
      → IsGiven b old new n x asked → Grows old new
  given_grows old new n x asked k =
      elim k.comes_to [
        | inl r ↦ (r.batch, r.adds.sent)
        | inr (inl r) ↦
            (take r.sends r.batch, r.adds.sent)
        | inr (inr f) ↦ ([], f.adds.sent)
      ]

  together_grows : (old new : WorldState R) (n : ℕ) (given : List Input)
      → IsGivenTogether b old new n given → Grows old new
  together_grows old new n given k =
      elim k.comes_to [
        | inl r ↦ (sent_of r.said, r.adds.sent)
        | inr (inl r) ↦
            (take r.sends (sent_of r.said), r.adds.sent)
        | inr (inr f) ↦ ([], f.adds.sent)
      ]

  brings_grows : (old new : WorldState R) (e : Event) → HasEffect b old e new → Grows old new
  brings_grows old new (event.Start n) k = come_grows old new k.sim_node empty k.comes
  brings_grows old new (event.Restart n) k = come_grows old new k.next k.device k.comes
  brings_grows old new (event.Tick n) k = given_grows old new n input.Tick [] k
  brings_grows old new (event.Nudge n reason) k = given_grows old new n (input.Nudge reason) [] k
  brings_grows old new (event.Compact n) k = elim k.comes_to [ inl p ↦ ([], p.adds.sent) | inr f ↦ ([], f.adds.sent) ]
  brings_grows old new (event.Client n r) k = (k.datagram ∷ [], k.adds.sent)
  brings_grows old new (event.Deliver i) k = given_grows old new k.node (input.Datagram k.datagram.bytes) [] k.given
  brings_grows old new (event.Group n group_inputs) k = together_grows old new n (map
      (given_by old.sent) group_inputs.items) k
  brings_grows old new (event.Inject n bytes) k =
      given_grows old new n (input.Datagram bytes.items) (asked_note k.request) k.given
  brings_grows old new (event.Stop n x y) k = ([], k.adds.sent)
  brings_grows old new (event.FailAt n count) k = ([], k.adds.sent)
  brings_grows old new (event.Arm n count bytes) k = ([], k.adds.sent)

  pub done_grows : (old new : WorldState R) (e : Event) → IsExecuted b old e new → Grows old new
  done_grows old new e k = brings_grows old new e k.1

  wants_grow : (old new : WorldState R) (e : Event) → Wants b old e new → Grows old new
  wants_grow old new (event.Start m) k = nothing_more old new k
  wants_grow old new (event.Restart m) k = ([], k.adds.sent)
  wants_grow old new (event.Tick m) k = ([], k.adds.sent)
  wants_grow old new (event.Nudge m reason) k = ([], k.adds.sent)
  wants_grow old new (event.Compact m) k = ([], k.adds.sent)
  wants_grow old new (event.Client m r) k = nothing_more old new k
  wants_grow old new (event.Deliver i) k = elim k [ inl same ↦ nothing_more old new same | inr h ↦ ([], h.4.adds.sent) ]
  wants_grow old new (event.Group m group_inputs) k =
      elim k [ inl same ↦ nothing_more old new same.0 | inr h ↦ ([], h.adds.sent) ]
  wants_grow old new (event.Inject m bytes) k =
      elim k [ inl same ↦ nothing_more old new same.0 | inr h ↦ ([], h.adds.sent) ]
  wants_grow old new (event.Stop m x y) k = absurd k
  wants_grow old new (event.FailAt m count) k = absurd k
  wants_grow old new (event.Arm m count bytes) k = absurd k

  pub refused_grows : (old new : WorldState R) (e : Event) (r : Refused) → IsRefused b old e r new → Grows old new
  refused_grows old new e r k =
      elim k [ inl same ↦ nothing_more old new same.1 | inr wants ↦ wants_grow old new e wants.2 ]

  both_grow : (old mid new : WorldState R) → Grows old mid → Grows mid new → Grows old new
  both_grow old mid new x y = (x.0 ++ y.0, y.1 ∙ ap (λ l. l ++ y.0) x.1 ∙ append_assoc old.sent x.0 y.0)

  passes_grow : (es : List Event) (old new : WorldState R) → AreExecuted b es old new → Grows old new
  passes_grow [] old new p = nothing_more old new p
  passes_grow (e ∷ es) old new p = both_grow old p.0 new (done_grows old p.0 e p.1) (passes_grow es p.0 new p.2)

  stops_grow : (es : List Event) (done : ℕ) (o : Option Refused) (last new : WorldState R)
      → StopsAt b es done o last new → Grows last new
  stops_grow es done None last new k = nothing_more last new k.1
  stops_grow es done (Some r) last new k = refused_grows last new k.0 r k.2

  pub run_grows : (old new : WorldState R) (es : List Event) (how : RunEnd) → Runs b old es how new → Grows old new
  run_grows old new es how k =
      both_grow old k.last new (passes_grow (take how.done es) old k.last k.are_executed)
      (stops_grow es how.done how.refused k.last new k.stops)
