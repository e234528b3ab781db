-- What a world tells that it was asked, its events have asked. So if none of them asked to change the members, any
-- majority may heal.
use Rattle.std.proofs.Common.{◌≡◌, ◌∙◌, ◌⊎◌, inl, inr, ℕ, zero, suc, ◌++◌, List, [], ◌∷◌, take, map, Contains, Option}
use Rattle.std.proofs.Common.{None, Some, refl, ap, sym, subst, arith, append-nil}
use Rattle.std.proofs.lemmas.List.Elements.{Contains-append_cases}
use Rattle.lk_memory_disk.specs.Memory.{Memory, empty}
use Rattle.lk_types.specs.declared.command.Request.{Request as RequestValue}
use Rattle.lk_types.specs.declared.genesis.Genesis.{Genesis}
use Rattle.lk_agreement_laws.proofs.Histories.{cons_cases, contains_more}
use Rattle.lk_agreement_laws.specs.Datagrams.{Datagram}
use Rattle.lk_members.proofs.Memberships.{majority_lies_within}
use Rattle.lk_members.specs.Majorities.{IsMajority}
use Rattle.lk_state.specs.Meanings.{Meaning}
use Rattle.lk_node_interface.specs.declared.input.Input.{Input}
use Rattle.lk_node_interface.specs.declared.input.Input.TheVariants.{Tick, Nudge, Datagram as Heard}
use Rattle.lk_node_interface.specs.declared.note.Note.{Note}
use Rattle.lk_node_interface.specs.declared.note.Note.TheVariants as note
use Rattle.lk_replica.specs.Behaviours.{Behaviour}
use Rattle.lk_replica.specs.ReplicaValue.{ReplicaValue}
use Rattle.lk_replica.specs.Together.{Said, sent_of}
use Rattle.lk_sim.specs.Events.{Adds, AreAllOfNodes, ComesUp, HasEffect, IsGiven, IsGivenTogether, Wants}
use Rattle.lk_sim.specs.Groups.{AreNotesOf, given_by}
use Rattle.lk_sim.specs.Heard.{IsRequestIn}
use Rattle.lk_sim.specs.Runs.{AreExecuted, Runs, StopsAt}
use Rattle.lk_sim.specs.WorldStates.{WorldState}
use Rattle.lk_sim.specs.Traces.{asked_in, asked_note}
use Rattle.lk_sim.specs.declared.end.RunEnd.{RunEnd}
use Rattle.lk_sim.specs.declared.event.Event.{Event}
use Rattle.lk_sim.specs.declared.event.Event.TheVariants as event
use Rattle.lk_sim_nodes.specs.Sends.{cut_short, left_over}
use Rattle.lk_sim_nodes.specs.declared.refused.Refused.{Refused}
use Rattle.lk_sim_nodes.specs.declared.sim_node.SimNode.{SimNode}
use Rattle.lk_world_progress.specs.Delivering.{AreDistinct}
use Rattle.lk_world_progress.specs.Stepping.{behaviour}
use Rattle.lk_healing.proofs.Asks.{asked_both, own_notes, replies_ask_nothing}
use Rattle.lk_healing.proofs.Places.{contains_at}
use Rattle.lk_healing.specs.Heals.{HasRoundOnDisks, MayHeal}
use Rattle.lk_healing.specs.Histories.{AsksAnew, ComesOf, ComesOfAll, IsAskedBy, NeverChanges, RunsAreHistories}
use Rattle.lk_healing.specs.Histories.{UnchangedWorldsMayHeal, new_world}
use Rattle.lk_healing.specs.Restarts.{AreStarted}

-- ---- what notes ask

asks_first : (asked notes told : List Note) → asked_in notes ≡ [] → asked_in told ≡ []
    → asked_in ((asked ++ notes) ++ told) ≡ asked_in asked
asks_first asked notes told none nor =
    asked_both (asked ++ notes) told
    ∙ ap (λ (l : List RequestValue). asked_in (asked ++ notes) ++ l) nor
    ∙ append-nil (asked_in (asked ++ notes))
    ∙ asked_both asked notes
    ∙ ap (λ (l : List RequestValue). asked_in asked ++ l) none
    ∙ append-nil (asked_in asked)

group_asks_nothing : (xs : List Said) (notes : List Note) → AreAllOfNodes xs → AreNotesOf xs notes
    → asked_in notes ≡ []
group_asks_nothing [] notes all none = ap asked_in none
group_asks_nothing (x ∷ xs) notes all k =
    ap asked_in k.3 ∙ asked_both (x.0 ++ k.0) k.1
    ∙ ap (λ (l : List RequestValue). l ++ asked_in k.1)
    (asked_both x.0 k.0 ∙ ap (λ (l : List RequestValue). l ++ asked_in k.0) (own_notes x.0 all.0)
    ∙ replies_ask_nothing x.1 k.0 k.2)
    ∙ group_asks_nothing xs k.1 all.1 k.4

cut_own : (k : ℕ) (xs : List Said) → AreAllOfNodes xs → AreAllOfNodes (cut_short k xs)
cut_own k [] all = tt
cut_own k (x ∷ xs) all = (all.0, cut_own (left_over k x.1) xs all.1)

-- notes that ask nothing ask only what the event does
silent : (notes : List Note) → asked_in notes ≡ [] → (e : Event) (q : RequestValue) → Contains (asked_in notes) q
    → IsAskedBy q e
silent notes none e q c = absurd (nowhere (subst (λ (l : List RequestValue). Contains l q) none c))
  where
    nowhere : Contains [] q → ⊥
    nowhere d = omega (arith, d.1)

request_noted : (bytes : List ℕ) (o : Option RequestValue) → IsRequestIn bytes o → (q : RequestValue)
    → Contains (asked_in (asked_note o)) q → IsRequestIn bytes (Some q)
request_noted bytes None is q c = absurd (omega (arith, c.1))
request_noted bytes (Some r) is q c = elim (cons_cases r [] q c) [
  | inl same ↦ subst (λ (y : RequestValue). IsRequestIn bytes (Some y)) same is
  | inr later ↦ absurd (omega (arith, later.1))
]

module _ (m : Meaning) (IsText : List ℕ → Type 0) where
  abbrev b : Behaviour ReplicaValue
  b = behaviour m IsText

  -- ---- one event

  -- the world tells of nothing else that was asked
  record AsksAlone (e : Event) (old new : WorldState ReplicaValue) : Type 0 where
    asked : (q : RequestValue) → Contains (asked_in new.trace) q → Contains (asked_in old.trace) q ⊎ IsAskedBy q e
    genesis : new.genesis ≡ old.genesis

  unchanged : (e : Event) (old new : WorldState ReplicaValue) → new ≡ old → AsksAlone e old new
  unchanged e old new same = record {
    asked = λ q c. inl (subst (λ (w : WorldState ReplicaValue). Contains (asked_in w.trace) q) same c);
    genesis = ap (λ (w : WorldState ReplicaValue). w.genesis) same;
  }

  noted : (e : Event) (old new : WorldState ReplicaValue) (notes : List Note) (batch : List Datagram)
      → Adds old new notes batch → ((q : RequestValue) → Contains (asked_in notes) q → IsAskedBy q e)
      → AsksAlone e old new
  noted e old new notes batch adds all = record {
    asked = λ q c. elim (Contains-append_cases (asked_in old.trace) (asked_in notes) q
        (subst (λ (l : List RequestValue). Contains l q) (ap asked_in adds.trace ∙ asked_both old.trace notes) c)) [
          | inl before ↦ inl before
          | inr now ↦ inr (all q now)
        ];
    genesis = adds.genesis;
  }

  nothing : (e : Event) (old new : WorldState ReplicaValue) → Adds old new [] [] → AsksAlone e old new
  nothing e old new adds = noted e old new [] [] adds (silent [] refl e)

  given : (e : Event) (old new : WorldState ReplicaValue) (n : ℕ) (i : Input) (asked : List Note)
      → IsGiven b old new n i asked → ((q : RequestValue) → Contains (asked_in asked) q → IsAskedBy q e)
      → AsksAlone e old new
  given e old new n i asked k all = elim k.comes_to [
    | inl g ↦ noted e old new ((asked ++ g.notes) ++ g.told) g.batch g.adds
        (as_asked g.notes g.told (own_notes g.notes g.of_nodes) (replies_ask_nothing g.batch g.told g.tells))
    | inr (inl g) ↦ noted e old new ((asked ++ g.notes) ++ g.told) (take g.sends g.batch) g.adds
        (as_asked g.notes g.told (own_notes g.notes g.of_nodes)
        (replies_ask_nothing (take g.sends g.batch) g.told g.tells))
    | inr (inr g) ↦ noted e old new asked [] g.adds all
  ]
    where
      as_asked : (notes told : List Note) → asked_in notes ≡ [] → asked_in told ≡ [] → (q : RequestValue)
          → Contains (asked_in ((asked ++ notes) ++ told)) q → IsAskedBy q e
      as_asked notes told none nor q c =
          all q (subst (λ (l : List RequestValue). Contains l q) (asks_first asked notes told none nor) c)

  together : (e : Event) (old new : WorldState ReplicaValue) (n : ℕ) (is : List Input)
      → IsGivenTogether b old new n is → AsksAlone e old new
  together e old new n is k = elim k.comes_to [
    | inl g ↦ noted e old new g.notes (sent_of g.said) g.adds
        (silent g.notes (group_asks_nothing g.said g.notes g.of_nodes g.tells) e)
    | inr (inl g) ↦ noted e old new g.notes (take g.sends (sent_of g.said)) g.adds
        (silent g.notes (group_asks_nothing (cut_short g.sends g.said) g.notes (cut_own g.sends g.said g.of_nodes)
        g.tells) e)
    | inr (inr g) ↦ nothing e old new g.adds
  ]

  comes_up : (e : Event) (old new : WorldState ReplicaValue) (t : SimNode ReplicaValue) (device : Memory)
      → ComesUp b old new t device → AsksAlone e old new
  comes_up e old new t device (inl g) = noted e old new g.notes [] g.adds
      (silent g.notes (own_notes g.notes g.of_nodes) e)
  comes_up e old new t device (inr g) = nothing e old new g.adds

  executed : (e : Event) (old new : WorldState ReplicaValue) → HasEffect b old e new → AsksAlone e old new
  executed (event.Start n) old new k = comes_up (event.Start n) old new k.sim_node empty k.comes
  executed (event.Restart n) old new k = comes_up (event.Restart n) old new k.next k.device k.comes
  executed (event.Tick n) old new k =
      given (event.Tick n) old new n Tick [] k (silent [] refl (event.Tick n))
  executed (event.Nudge n reason) old new k =
      given (event.Nudge n reason) old new n (Nudge reason) [] k (silent [] refl (event.Nudge n reason))
  executed (event.Compact n) old new k = elim k.comes_to [
    | inl g ↦ nothing (event.Compact n) old new g.adds
    | inr g ↦ nothing (event.Compact n) old new g.adds
  ]
  executed (event.Client n r) old new k =
      noted (event.Client n r) old new (note.Asked r ∷ []) (k.datagram ∷ []) k.adds
      (λ q c. elim (cons_cases r [] q c) [ inl is ↦ sym is | inr later ↦ absurd (omega (arith, later.1)) ])
  executed (event.Deliver place) old new k =
      given (event.Deliver place) old new k.node (Heard k.datagram.bytes) [] k.given
      (silent [] refl (event.Deliver place))
  executed (event.Group n inputs) old new k =
      together (event.Group n inputs) old new n (map (given_by old.sent) inputs.items) k
  executed (event.Inject n bytes) old new k =
      given (event.Inject n bytes) old new n (Heard bytes.items) (asked_note k.request) k.given
      (request_noted bytes.items k.request k.asks)
  executed (event.Stop n x y) old new k = nothing (event.Stop n x y) old new k.adds
  executed (event.FailAt n count) old new k = nothing (event.FailAt n count) old new k.adds
  executed (event.Arm n count bytes) old new k = nothing (event.Arm n count bytes) old new k.adds

  -- memory ran out
  wanted : (e : Event) (old new : WorldState ReplicaValue) → Wants b old e new → AsksAlone e old new
  wanted (event.Start n) old new k = unchanged (event.Start n) old new k
  wanted (event.Restart n) old new k = nothing (event.Restart n) old new k.adds
  wanted (event.Tick n) old new k = nothing (event.Tick n) old new k.adds
  wanted (event.Nudge n reason) old new k = nothing (event.Nudge n reason) old new k.adds
  wanted (event.Compact n) old new k = nothing (event.Compact n) old new k.adds
  wanted (event.Client n r) old new k = unchanged (event.Client n r) old new k
  wanted (event.Deliver place) old new k = elim k [
    | inl same ↦ unchanged (event.Deliver place) old new same
    | inr h ↦ nothing (event.Deliver place) old new h.4.adds
  ]
  wanted (event.Group n inputs) old new k = elim k [
    | inl same ↦ unchanged (event.Group n inputs) old new same.0
    | inr h ↦ nothing (event.Group n inputs) old new h.adds
  ]
  wanted (event.Inject n bytes) old new k = elim k [
    | inl same ↦ unchanged (event.Inject n bytes) old new same.0
    | inr h ↦ nothing (event.Inject n bytes) old new h.adds
  ]
  wanted (event.Stop n x y) old new k = absurd k
  wanted (event.FailAt n count) old new k = absurd k
  wanted (event.Arm n count bytes) old new k = absurd k

  comes : (e : Event) (old new : WorldState ReplicaValue) → ComesOf m IsText e old new → AsksAlone e old new
  comes e old new (inl done) = executed e old new done.1
  comes e old new (inr rejected) = elim rejected.1 [
    | inl r ↦ unchanged e old new r.1
    | inr r ↦ wanted e old new r.2
  ]

  -- ---- many

  record AskAlone (es : List Event) (old new : WorldState ReplicaValue) : Type 0 where
    asked : (q : RequestValue) → Contains (asked_in new.trace) q
        → Contains (asked_in old.trace) q ⊎ ((e : Event) × Contains es e × IsAskedBy q e)
    genesis : new.genesis ≡ old.genesis

  all_come : (es : List Event) (old new : WorldState ReplicaValue) → ComesOfAll m IsText es old new
      → AskAlone es old new
  all_come [] old new same = record {
    asked = λ q c. inl (subst (λ (w : WorldState ReplicaValue). Contains (asked_in w.trace) q) same c);
    genesis = ap (λ (w : WorldState ReplicaValue). w.genesis) same;
  }
  all_come (e ∷ es) old new k =
      let one : AsksAlone e old k.0 = comes e old k.0 k.1 in
      let rest : AskAlone es k.0 new = all_come es k.0 new k.2 in record {
        asked = λ q c. elim (rest.asked q c) [
          | inl before ↦ elim (one.asked q before) [
            | inl first ↦ inl first
            | inr now ↦ inr (e, (0, omega arith, refl), now)
          ]
          | inr later ↦ inr (later.0, contains_more e es later.0 later.1, later.2)
        ];
        genesis = rest.genesis ∙ one.genesis;
      }

  -- ---- runs

  executed_all : (es : List Event) (old new : WorldState ReplicaValue) → AreExecuted b es old new
      → ComesOfAll m IsText es old new
  executed_all [] old new same = same
  executed_all (e ∷ es) old new k = (k.0, inl k.1, executed_all es k.0 new k.2)

  one_more : (es : List Event) (e : Event) (old mid new : WorldState ReplicaValue) → ComesOfAll m IsText es old mid
      → ComesOf m IsText e mid new → ComesOfAll m IsText (es ++ e ∷ []) old new
  one_more [] e old mid new same one =
      (new, subst (λ (w : WorldState ReplicaValue). ComesOf m IsText e w new) same one, refl)
  one_more (d ∷ es) e old mid new k one = (k.0, k.1, one_more es e k.0 mid new k.2 one)

  taken : (count : ℕ) (es : List Event) (e : Event) → Contains (take count es) e → Contains es e
  taken zero es e c = absurd (omega (arith, c.1))
  taken (suc n) [] e c = absurd (omega (arith, c.1))
  taken (suc n) (d ∷ es) e c = elim (cons_cases d (take n es) e c) [
    | inl is ↦ (0, omega arith, is)
    | inr later ↦ contains_more d es e (taken n es e later)
  ]

  pub run_is_history : RunsAreHistories m IsText
  run_is_history events how old new k = by_end how.refused k.stops
    where
      by_end : (o : Option Refused) → StopsAt b events how.done o k.last new
          → (es : List Event) × ((e : Event) → Contains es e → Contains events e) × ComesOfAll m IsText es old new
      by_end None s = (
        take how.done events,
        λ e c. taken how.done events e c,
        subst (λ (w : WorldState ReplicaValue). ComesOfAll m IsText (take how.done events) old w) (sym s.1)
            (executed_all (take how.done events) old k.last k.are_executed),
      )
      by_end (Some r) s = (
        take how.done events ++ s.0 ∷ [],
        λ e c. elim (Contains-append_cases (take how.done events) (s.0 ∷ []) e c) [
          | inl before ↦ taken how.done events e before
          | inr last ↦ elim (cons_cases s.0 [] e last) [
            | inl is ↦ subst (λ (y : Event). Contains events y) is (contains_at events how.done s.0 s.1)
            | inr later ↦ absurd (omega (arith, later.1))
          ]
        ],
        one_more (take how.done events) s.0 old k.last new
            (executed_all (take how.done events) old k.last k.are_executed) (inr (r, s.2)),
      )

  -- ---- who heals

  pub unchanged_may_heal : UnchangedWorldsMayHeal m IsText
  unchanged_may_heal w events x others r never distinct majority started rounds anew = record {
    others = others;
    are = refl;
    distinct = distinct;
    fixed = record {
      changes = λ q c change. (let k = asked q c in never.none k.0 q k.1 k.2 change);
      named = majority_lies_within w.genesis.members (x ∷ others) x majority (0, omega arith, refl);
      majority = majority;
    };
    started = started;
    rounds = rounds;
    fresh = λ q c same. (let k = asked q c in anew k.0 q k.1 k.2 same);
  }
    where
      asked : (q : RequestValue) → Contains (asked_in w.trace) q → (e : Event) × Contains events e × IsAskedBy q e
      asked q c = elim ((all_come events (new_world w.genesis) w never.comes).asked q c) [
        | inl before ↦ absurd (omega (arith, before.1))
        | inr k ↦ k
      ]
