-- What the steps of a group keep, one after another.
use Rattle.std.proofs.Common.{◌≡◌, ℕ, true, false, ◌⊎◌, Option, Some, None, List, [], ◌∷◌, ◌++◌, set, take, Contains}
use Rattle.std.proofs.Common.{refl, ap, sym, ◌∙◌, subst, subst₂, inl, inr, append_assoc, append-nil, zero, suc, arith}
use Rattle.std.specs.Prelude.{map}
use Rattle.std.specs.List.{AllByRecursion}
use Rattle.std.proofs.lemmas.List.{map-append}
use Rattle.std.proofs.lemmas.List.Elements.{Contains-append_left, Contains-append_right, Contains-append_cases}
use Rattle.lk_memory_disk.specs.Memory.{Memory, disk_of}
use Rattle.lk_locks.specs.Meaning.{table_meaning}
use Rattle.lk_locks.specs.Packed.{IsTableText}
use Rattle.lk_log.specs.Rooms.{StaysWithin}
use Rattle.lk_log.specs.StoreValue.{disks}
use Rattle.lk_log.proofs.Room.{never_longer}
use Rattle.lk_messages.specs.declared.message.NodeMessage.TheVariants as kinds
use Rattle.lk_agreement_laws.specs.Snapshots.{IsSlice}
use Rattle.lk_agreement_laws.proofs.Histories.{prefix_slice, still_sent}
use Rattle.lk_node_interface.specs.Envelopes.{EnvelopeValue, batch_of, datagram_of}
use Rattle.lk_node_interface.specs.declared.input.Input.{Input}
use Rattle.lk_node_interface.specs.declared.input.Input.TheVariants.{Tick, Nudge, Datagram as Heard}
use Rattle.lk_node_interface.specs.declared.note.Note.{Note}
use Rattle.lk_node.specs.Calls.{heard_by, InputFits, NodeFits, LeavesFit}
use Rattle.lk_node.specs.Histories.{History, Genesis, Datagram, RequestValue, IsLawful, later, text}
use Rattle.lk_node.specs.Keeping.{ReplicaHolds}
use Rattle.lk_node.specs.Leavings.{DisksFit}
use Rattle.lk_replica.specs.Groups.{StepSaid, envelopes_of, GoesThrough}
use Rattle.lk_replica.specs.Posts.{AreOf}
use Rattle.lk_recovery.specs.Remembering.{ReplicaRemembers}
use Rattle.lk_replica.specs.ReplicaValue.{ReplicaValue, device_of}
use Rattle.lk_recovery.specs.Rooms.{max_after}
use Rattle.lk_server_replica.specs.Sayings.{SaysByGroup, IsSilenced, SaysOf}
use Rattle.lk_server.specs.Servers.{ServerValue}
use Rattle.lk_sim.specs.Events.{ReplacesSeat}
use Rattle.lk_sim.specs.Networks.{MayCome, AreAsking, MayHear, RecordsReplies, GoesBy, GoesOn}
use Rattle.lk_sim_nodes.specs.Rooms.{AreShort}
use Rattle.lk_sim.specs.WorldStates.{WorldState}
use Rattle.lk_sim_nodes.specs.SimNodes.{At}
use Rattle.lk_sim.specs.Traces.{asked_by, asked_in, asked_note, happened}
use Rattle.lk_sim.specs.Worlds.{WorldInvariant}
use Rattle.lk_sim_nodes.specs.declared.sim_node.RunState.{RunState}
use Rattle.lk_sim_nodes.specs.declared.sim_node.RunState.TheVariants.{Up, Down}
use Rattle.lk_sim.proofs.Networks.{step_holds, heard, asked_maybe, at_set_here, set_twice, went_down}
use Rattle.lk_cluster_theorems.specs.Clusters.{Node, ServerHolds, server_disks, TracesStep, TracesGroup, steps_of}
use Rattle.lk_cluster_theorems.proofs.Mapped.{on_device}

-- ---- what is given

-- bytes that may be heard as what was given
pub input_fits : (h : History) (i : Input) → MayHear h (heard_by i) → InputFits h i
input_fits h Tick hears = tt
input_fits h (Nudge reason) hears = tt
input_fits h (Heard bytes) hears = hears

-- each of these may come
abbrev pub AllMay : Genesis → List Datagram → List (Option (List ℕ)) → Type 0
AllMay genesis sent [] = Unit {0}
AllMay genesis sent (o ∷ given) = MayCome genesis sent o × AllMay genesis sent given

may_later : (genesis : Genesis) (sent more : List Datagram) (o : Option (List ℕ)) → MayCome genesis sent o
    → MayCome genesis (sent ++ more) o
may_later genesis sent more None may = tt
may_later genesis sent more (Some bytes) may = λ n x said. still_sent genesis sent more n x (may n x said)

pub all_later : (genesis : Genesis) (sent more : List Datagram) (given : List (Option (List ℕ)))
    → AllMay genesis sent given → AllMay genesis (sent ++ more) given
all_later genesis sent more [] may = tt
all_later genesis sent more (o ∷ given) may =
    (may_later genesis sent more o may.0, all_later genesis sent more given may.1)

-- what was asked stays asked
asked_later : (trace more : List Note) (r : RequestValue) → Contains (asked_in trace) r
    → Contains (asked_in (trace ++ more)) r
asked_later [] more r c = absurd (omega (arith, c.1))
asked_later (x ∷ trace) more r c = elim (Contains-append_cases (asked_by x) (asked_in trace) r c) [
  | inl here ↦ Contains-append_left (asked_by x) (asked_in (trace ++ more)) r here
  | inr further ↦ Contains-append_right (asked_by x) (asked_in (trace ++ more)) r (asked_later trace more r further)
]

hears_later : (genesis : Genesis) (sent : List Datagram) (trace more : List Note) (o : Option (List ℕ))
    → MayHear (happened genesis sent trace) o → MayHear (happened genesis sent (trace ++ more)) o
hears_later genesis sent trace more None hears = tt
hears_later genesis sent trace more (Some bytes) hears =
    record { said = hears.said; asked = λ r spelled. asked_later trace more r (hears.asked r spelled) }

-- of a step that noted and said nothing only what it was asked joins the trace
silent_here : (cluster n : ℕ) (o : Option (List ℕ)) (here : List Note) (j : TracesStep cluster n o ([], []) here)
    → here ≡ asked_note j.request
silent_here cluster n o here j =
    j.trace_is ∙ ap (λ (l : List Note). (asked_note j.request ++ []) ++ l) j.tells_of
    ∙ append-nil (asked_note j.request ++ []) ∙ append-nil (asked_note j.request)

-- what is given may be heard, once all that it asks is noted
pub all_hear : (genesis : Genesis) (n : ℕ) (sent : List Datagram) (trace : List Note) (is : List Input)
    (more : List Note) → TracesGroup genesis.cluster n (map heard_by is) [] more → AllMay genesis sent (map heard_by is)
    → AllByRecursion (InputFits (happened genesis sent (trace ++ more))) is
all_hear genesis n sent trace [] more joins may = tt
all_hear genesis n sent trace (i ∷ is) more joins may =
    let here = silent_here genesis.cluster n (heard_by i) joins.0 joins.3 in
    let first = heard genesis sent trace (heard_by i) joins.3.request may.0 joins.3.asks in
    let hears = hears_later genesis sent (trace ++ asked_note joins.3.request) joins.1 (heard_by i) first in
    let rest = all_hear genesis n sent (trace ++ asked_note joins.3.request) is joins.1 joins.4 may.1 in
    let same : (trace ++ asked_note joins.3.request) ++ joins.1 ≡ trace ++ more =
    append_assoc trace (asked_note joins.3.request) joins.1
    ∙ ap (λ (l : List Note). trace ++ (l ++ joins.1)) (sym here) ∙ ap (λ (l : List Note). trace ++ l) (sym joins.2) in
    subst (λ (l : List Note). AllByRecursion (InputFits (happened genesis sent l)) (i ∷ is)) same
    (input_fits (happened genesis sent ((trace ++ asked_note joins.3.request) ++ joins.1)) i hears, rest)

-- what holds of a cluster makes its history lawful
lawful : (genesis : Genesis) (sim_nodes : List Node) (sent : List Datagram) (trace : List Note)
    → WorldInvariant ServerHolds server_disks table_meaning genesis sim_nodes sent trace
    → IsLawful table_meaning (happened genesis sent trace)
lawful genesis sim_nodes sent trace w = record {
  sound = w.world.sound;
  asked = w.proposed;
  parts = λ n p s.
      let b = w.messages n (kinds.Part p) s in
      subst (λ (total : ℕ). IsSlice genesis sent (text table_meaning genesis) p.position total p.offset p.bytes) b.total
      (prefix_slice genesis sent
      (text table_meaning genesis) w.list p.position p.offset p.bytes w.chosen b.reaches b.slice);
}

-- where no history is left to fit, nothing more is done by it
nothing_goes : (h : History) (n : ℕ) (q : ReplicaValue)
    → NodeFits table_meaning h n (ReplicaHolds table_meaning q.node q.store h.genesis n) (disks q.store)
    → LeavesFit table_meaning h n (ReplicaHolds table_meaning q.node q.store h.genesis n) (disks q.store) [] []
nothing_goes h n q f = record {
  holding = f.holding;
  shown = f.shown;
  fits = f.fits;
  may = λ d c. absurd (omega (arith, c.1));
  noted = λ x c. absurd (omega (arith, c.1));
  left = λ k. subst (λ (l : List Datagram). DisksFit table_meaning (later h l) n (disks q.store)) (nothing_in_front k)
      (subst (λ (l : List Datagram). DisksFit table_meaning (record h { sent = l }) n (disks q.store))
      (sym (append-nil h.sent)) f.left);
}
  where
    nothing_in_front : (k : ℕ) → let none : List Datagram = [] in none ≡ take k none
    nothing_in_front zero = refl
    nothing_in_front (suc k) = refl

same_down : (d e : Memory) → ◌≡◌ {A = RunState (ServerValue ReplicaValue)} (Down d) (Down e) → d ≡ e
same_down d e p = cc p

-- ---- a server in its place, with one replica after another

module _ (genesis : Genesis) (n : ℕ) (sim_nodes : List Node) (index : ℕ) (node : Node) (at : At sim_nodes index node)
    (s : ServerValue ReplicaValue) where
  abbrev HoldsAt : List Node → List Datagram → List Note → Type 0
  HoldsAt nodes sent trace = WorldInvariant ServerHolds server_disks table_meaning genesis nodes sent trace

  abbrev sim_node : RunState (ServerValue ReplicaValue) → Node
  sim_node run_state = record { number = n; run_state = run_state }

  abbrev sim_nodes_of : RunState (ServerValue ReplicaValue) → List Node
  sim_nodes_of run_state = set sim_nodes index (sim_node run_state)

  abbrev serving : ReplicaValue → ServerValue ReplicaValue
  serving r = record s { replica = r }

  abbrev pub IsUpWith : ReplicaValue → List Datagram → List Note → Type 0
  IsUpWith r sent trace = HoldsAt (sim_nodes_of (Up (serving r))) sent trace

  turns : (old new : RunState (ServerValue ReplicaValue)) → ReplacesSeat (sim_nodes_of old) (sim_nodes_of new)
      (sim_node old) (sim_node new)
  turns old new = record {
    index = index;
    at = at_set_here sim_nodes index (sim_node old) at.0;
    number = refl;
    sim_nodes = sym (set_twice sim_nodes index (sim_node old) (sim_node new));
  }

  up_as : (q : ReplicaValue) (sent now : List Datagram) (trace since : List Note) → sent ≡ now → trace ≡ since
      → IsUpWith q sent trace → IsUpWith q now since
  up_as q sent now trace since e f w = subst₂ (λ x y. IsUpWith q x y) e f w

  -- what the node holds fits to all that has happened
  pub fits : (r : ReplicaValue) (sent : List Datagram) (trace : List Note) → IsUpWith r sent trace
      → NodeFits table_meaning (happened genesis sent trace) n
      (ReplicaHolds table_meaning r.node r.store genesis n) (disks r.store)
  fits r sent trace w =
      let f = (w.as_sim_nodes index (sim_node (Up (serving r))) (at_set_here sim_nodes index
      (sim_node (Up (serving r))) at.0)).up
      (serving r) refl in
      record {
        lawful = lawful genesis _ sent trace w;
        holding = f.holding;
        shown = f.shown;
        fits = f.fits;
        left = f.left;
      }

  short : (r : ReplicaValue) (sent : List Datagram) (trace : List Note) → IsUpWith r sent trace
      → AreShort (disks r.store)
  short r sent trace w = ((w.as_sim_nodes index (sim_node (Up (serving r)))
      (at_set_here sim_nodes index (sim_node (Up (serving r))) at.0)).up (serving r) refl).room

  pub remembers : (r : ReplicaValue) (sent : List Datagram) (trace : List Note) → IsUpWith r sent trace
      → ReplicaRemembers r.node r.store genesis n
  remembers r sent trace w = let f = fits r sent trace w in record { whose = f.shown.whose; keeps = f.shown.keeps }

  -- ---- a step

  goes_by : (r mid : ReplicaValue) (came : Option (List ℕ)) (request : Option RequestValue) (notes told : List Note)
      (batch : List Datagram) → AreAsking genesis.cluster came request → RecordsReplies batch told
      → GoesBy ServerHolds server_disks table_meaning n (serving r) came (serving mid) notes batch
      → (sent : List Datagram) (trace : List Note) → MayCome genesis sent came → IsUpWith r sent trace
      → IsUpWith mid (sent ++ batch) (trace ++ ((asked_note request ++ notes) ++ told))
  goes_by r mid came request notes told batch asks tells goes sent trace may w =
      let old : WorldState (ServerValue ReplicaValue) =
      record {
        genesis = genesis;
        sim_nodes = sim_nodes_of (Up (serving r));
        sent = sent;
        trace =
            trace;
        ended = None;
      } in
      let new : WorldState (ServerValue ReplicaValue) =
      record {
        genesis = genesis;
        sim_nodes = sim_nodes_of (Up (serving mid));
        sent = sent ++ batch;
        trace = trace ++ ((asked_note request ++ notes) ++ told);
        ended = None;
      } in
      let goes_on : GoesOn ServerHolds server_disks table_meaning old new = record {
        sim_node = sim_node (Up (serving r));
        next = sim_node (Up (serving mid));
        replaces = turns (Up (serving r)) (Up (serving mid));
        before = serving r;
        was = refl;
        after = serving mid;
        up = refl;
        came = came;
        may = may;
        request = request;
        asks = asks;
        notes = notes;
        told = told;
        batch = batch;
        goes = goes;
        tells = tells;
        adds = record { genesis = refl; sent = refl; trace = refl };
      } in
      step_holds ServerHolds server_disks table_meaning old new w (inr (inr (inr (inl goes_on))))

  -- what a step of a group promises
  abbrev pub StepGoes : ReplicaValue → Input → ReplicaValue → StepSaid → Type 0
  StepGoes r i mid step =
      ((h : History) → NodeFits table_meaning h n (ReplicaHolds table_meaning r.node r.store h.genesis n)
      (disks r.store)
      → InputFits h i → (sent : List EnvelopeValue) → AreOf sent step.1
      → LeavesFit table_meaning h n (ReplicaHolds table_meaning mid.node mid.store h.genesis n)
      (disks mid.store) step.0 (batch_of n sent))
      × StaysWithin max_after (disks r.store) (disks mid.store)

  pub step_on : (r mid : ReplicaValue) (i : Input) (step : StepSaid) → StepGoes r i mid step → (here : List Note)
      → TracesStep genesis.cluster n (heard_by i) step here → (sent : List Datagram) (trace : List Note)
      → MayCome genesis sent (heard_by i)
      → IsUpWith r sent trace → IsUpWith mid (sent ++ batch_of n step.1) (trace ++ here)
  step_on r mid i step goes here j sent trace may w =
      let by : GoesBy ServerHolds server_disks table_meaning n (serving r) (heard_by i) (serving mid) step.0
      (batch_of n step.1) = record {
        goes = λ h f hears. goes.0 h f (input_fits h i hears) step.1 (λ l c. c);
        short = λ before. never_longer (disks r.store) (disks mid.store) goes.1 before;
      } in
      subst (λ (l : List Note). IsUpWith mid (sent ++ batch_of n step.1) (trace ++ l)) (sym j.trace_is)
      (goes_by r mid (heard_by i) j.request step.0 j.told (batch_of n step.1) j.asks j.tells_of by sent trace may w)

  -- the end of a group
  settled : (r q : ReplicaValue)
      → ((h : History) → NodeFits table_meaning h n (ReplicaHolds table_meaning r.node r.store h.genesis n)
      (disks r.store)
      → NodeFits table_meaning h n (ReplicaHolds table_meaning q.node q.store h.genesis n) (disks q.store))
      → StaysWithin max_after (disks r.store) (disks q.store) → (sent : List Datagram) (trace : List Note)
      → IsUpWith r sent trace → IsUpWith q sent trace
  settled r q fit stays sent trace w =
      let by : GoesBy ServerHolds server_disks table_meaning n (serving r) None (serving q) [] [] = record {
        goes = λ h f hears. nothing_goes h n q (fit h f);
        short = λ before. never_longer (disks r.store) (disks q.store) stays before;
      } in
      up_as q (sent ++ []) sent (trace ++ []) trace (append-nil sent) (append-nil trace)
      (goes_by r q None None [] [] [] refl refl by sent trace tt w)

  -- ---- a group

  -- one that goes through
  goes_through : (is : List Input) (r q : ReplicaValue) (said : List StepSaid)
      → GoesThrough table_meaning n r is q said → (more : List Note)
      → TracesGroup genesis.cluster n (map heard_by is) said more
      → (sent : List Datagram) (trace : List Note) → AllMay genesis sent (map heard_by is) → IsUpWith r sent trace
      → IsUpWith q (sent ++ batch_of n (envelopes_of said)) (trace ++ more)
  goes_through [] r q said goes more joins sent trace may w =
      up_as q sent (sent ++ batch_of n (envelopes_of said)) trace (trace ++ more)
      (sym (ap (λ (l : List StepSaid). sent ++ batch_of n (envelopes_of l)) goes.0 ∙ append-nil sent))
      (sym (ap (λ (l : List Note). trace ++ l) joins ∙ append-nil trace))
      (settled r q goes.1 goes.2 sent trace w)
  goes_through (i ∷ is) r q said goes more joins sent trace may w =
      let mid : ReplicaValue = goes.0 in
      let step : StepSaid = (goes.1, goes.2) in
      let j : TracesGroup genesis.cluster n (heard_by i ∷ map heard_by is) (step ∷ goes.3) more =
      subst (λ (l : List StepSaid). TracesGroup genesis.cluster n (heard_by i ∷ map heard_by is) l more) goes.4 joins in
      let first = step_on r mid i step (goes.5, goes.6) j.0 j.3 sent trace may.0 w in
      let rest = goes_through is mid q goes.3 goes.7 j.1 j.4 (sent ++ batch_of n step.1) (trace ++ j.0)
      (all_later genesis sent (batch_of n step.1) (map heard_by is) may.1) first in
      up_as q ((sent ++ batch_of n step.1) ++ batch_of n (envelopes_of goes.3)) (sent ++ batch_of n (envelopes_of said))
      ((trace ++ j.0) ++ j.1) (trace ++ more)
      (append_assoc sent (batch_of n step.1) (batch_of n (envelopes_of goes.3))
      ∙ ap (λ (l : List Datagram). sent ++ l) (sym (map-append (datagram_of n) step.1 (envelopes_of goes.3)))
      ∙ ap (λ (l : List StepSaid). sent ++ batch_of n (envelopes_of l)) (sym goes.4))
      (append_assoc trace j.0 j.1 ∙ ap (λ (l : List Note). trace ++ l) (sym j.2)) rest

  -- of one that was refused what was asked is
  all_asked : (given : List (Option (List ℕ))) (more : List Note) → TracesGroup genesis.cluster n given [] more
      → (r : ReplicaValue) (sent : List Datagram) (trace : List Note) → IsUpWith r sent trace
      → IsUpWith r sent (trace ++ more)
  all_asked [] more joins r sent trace w =
      subst (λ (l : List Note). IsUpWith r sent l) (sym (ap (λ (l : List Note). trace ++ l) joins ∙ append-nil trace)) w
  all_asked (o ∷ given) more joins r sent trace w =
      let asked = asked_maybe ServerHolds server_disks table_meaning genesis
      (sim_nodes_of (Up (serving r))) sent trace w joins.3.request in
      let first = subst (λ (l : List Note). IsUpWith r sent (trace ++ l))
      (sym (silent_here genesis.cluster n o joins.0 joins.3)) asked in
      let rest = all_asked given joins.1 joins.4 r sent (trace ++ joins.0) first in
      subst (λ (l : List Note). IsUpWith r sent l)
      (append_assoc trace joins.0 joins.1 ∙ ap (λ (l : List Note). trace ++ l) (sym joins.2)) rest

  -- it goes down
  goes_down : (r : ReplicaValue) (left : Memory) (sent : List Datagram) (trace : List Note)
      → DisksFit table_meaning (happened genesis sent trace) n (disk_of left)
      → AreShort (disk_of left) → IsUpWith r sent trace
      → HoldsAt (sim_nodes_of (Down left)) sent trace
  goes_down r left sent trace fit short w =
      subst (λ (l : List Node). HoldsAt l sent trace) (set_twice sim_nodes index (sim_node (Up (serving r)))
      (sim_node (Down left)))
      (went_down ServerHolds server_disks table_meaning genesis (sim_nodes_of (Up (serving r))) sent trace w index
      (sim_node (Up (serving r))) (sim_node (Down left)) (at_set_here sim_nodes index (sim_node (Up (serving r))) at.0)
      refl (record {
        up = λ p is. absurd (cc is);
        down = λ d is. subst (λ (z : Memory). DisksFit table_meaning (happened genesis sent trace) n (disk_of z))
            (same_down left d is) fit;
        room = λ d is. subst (λ (z : Memory). AreShort (disk_of z)) (same_down left d is) short;
      }))

  -- how a group leaves the node: up, or down on the disks that it has left
  pub record Leaves (sent : List Datagram) (trace : List Note) (q : ReplicaValue) : Type 0 where
    pub up : q.failed ≡ false → IsUpWith q sent trace
    pub down : q.failed ≡ true → HoldsAt (sim_nodes_of (Down (device_of q.store))) sent trace

  module _ (Metered : Type 0) (given : List (Option (List ℕ))) (r : ReplicaValue) (envelopes : List EnvelopeValue)
      (q : ReplicaValue) (says : SaysOf table_meaning IsTableText Metered r given envelopes q) (more : List Note)
      (sent : List Datagram) (trace : List Note) (may : AllMay genesis sent given) (w : IsUpWith r sent trace) where
    by_group : (group : SaysByGroup table_meaning IsTableText Metered r given envelopes q)
        → TracesGroup genesis.cluster n given group.said more → Leaves (sent ++ batch_of n envelopes) (trace ++ more) q
    by_group group joins =
        let j = subst (λ (g : List (Option (List ℕ))). TracesGroup genesis.cluster n g group.said more)
        (sym group.are_given) joins in
        let m = subst (λ (g : List (Option (List ℕ))). AllMay genesis sent g) (sym group.are_given) may in
        let through = group.goes genesis n (remembers r sent trace w) n in
        let last = goes_through group.inputs r q group.said through more j sent trace m w in
        record {
          up = λ is. subst (λ (ls : List EnvelopeValue). IsUpWith q (sent ++ batch_of n ls) (trace ++ more))
              (sym group.are_said) last;
          down = λ is. absurd (let both : true ≡ false = sym is ∙ group.taken.alive in cc both);
        }

    by_refusal : IsSilenced envelopes q → TracesGroup genesis.cluster n given [] more
        → Leaves (sent ++ batch_of n envelopes) (trace ++ more) q
    by_refusal silent joins =
        let asked = all_asked given more joins r sent trace w in
        let j = subst (λ (g : List (Option (List ℕ))). TracesGroup genesis.cluster n g [] more) (sym says.are_given)
        joins in
        let m = subst (λ (g : List (Option (List ℕ))). AllMay genesis sent g) (sym says.are_given) may in
        let hears = all_hear genesis n sent trace says.inputs more j m in
        let left = says.leaves.ends (happened genesis sent (trace ++ more)) n
        (fits r sent (trace ++ more) asked) hears in
        let room = never_longer (disks r.store) (disks q.store) says.leaves.room (short r sent (trace ++ more) asked) in
        let down = goes_down r (device_of q.store) sent (trace ++ more)
        (on_device (λ d. DisksFit table_meaning (happened genesis sent (trace ++ more)) n d) q.store left)
        (on_device (λ d. AreShort d) q.store room) asked in
        record {
          up = λ is. absurd (let both : false ≡ true = sym is ∙ silent.ended in cc both);
          down = λ is. subst (λ (l : List Datagram). HoldsAt (sim_nodes_of (Down (device_of q.store))) l
              (trace ++ more))
              (sym (ap (λ (ls : List EnvelopeValue). sent ++ batch_of n ls) silent.none ∙ append-nil sent)) down;
        }

    by_comes : (comes : SaysByGroup table_meaning IsTableText Metered r given envelopes q ⊎ IsSilenced envelopes q)
        → TracesGroup genesis.cluster n given (steps_of Metered comes) more
        → Leaves (sent ++ batch_of n envelopes) (trace ++ more) q
    by_comes (inl group) joins = by_group group joins
    by_comes (inr silent) joins = by_refusal silent joins

    pub group_leaves : TracesGroup genesis.cluster n given (steps_of Metered says.comes) more
        → Leaves (sent ++ batch_of n envelopes) (trace ++ more) q
    group_leaves joins = by_comes says.comes joins
