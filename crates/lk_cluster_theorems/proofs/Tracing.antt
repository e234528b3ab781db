-- Each turn has a trace: of all that its replica said by what it was given.
use Rattle.std.proofs.Common.{ℕ, ◌⊎◌, Option, List, [], ◌∷◌, ◌++◌, refl, sym, subst, inl, inr}
use Rattle.std.specs.Prelude.{map}
use Rattle.lk_locks.specs.Meaning.{table_meaning}
use Rattle.lk_locks.specs.Packed.{IsTableText}
use Rattle.lk_agreement_laws.specs.Datagrams.{said_by}
use Rattle.lk_node_interface.specs.Envelopes.{EnvelopeValue, batch_of}
use Rattle.lk_node_interface.specs.declared.input.Input.{Input}
use Rattle.lk_node_interface.specs.declared.note.Note.{Note}
use Rattle.lk_node.specs.Calls.{heard_by}
use Rattle.lk_node.specs.Histories.{Genesis, Datagram}
use Rattle.lk_replica.specs.Groups.{StepSaid, GoesThrough}
use Rattle.lk_replica.specs.ReplicaValue.{ReplicaValue}
use Rattle.lk_server_replica.specs.Sayings.{SaysByGroup, IsSilenced, SaysOf}
use Rattle.lk_server.specs.Servers.{ServerValue}
use Rattle.lk_sim.specs.Networks.{MayCome, RecordsReplies}
use Rattle.lk_sim_nodes.specs.SimNodes.{At}
use Rattle.lk_sim.specs.Traces.{asked_note, happened}
use Rattle.lk_sim.proofs.Networks.{heard, asked_maybe}
use Rattle.lk_cluster_theorems.specs.Clusters.{Node, ServerHolds, server_disks, TracesStep, TracesGroup, steps_of}
use Rattle.lk_cluster_theorems.proofs.Groups.{AllMay, all_later, input_fits, IsUpWith, StepGoes, fits, remembers}
use Rattle.lk_cluster_theorems.proofs.Groups.{step_on}
use Rattle.lk_cluster_theorems.proofs.Requests.{asks_something, tells_something}

module _ (genesis : Genesis) (n : ℕ) where
  -- this joins the trace by a group
  abbrev pub Traced : List (Option (List ℕ)) → List StepSaid → Type 0
  Traced given said = (trace : List Note) × TracesGroup genesis.cluster n given said trace

  -- a step, and those after it
  joined : (o : Option (List ℕ)) (given : List (Option (List ℕ))) (step : StepSaid) (said : List StepSaid)
      (here : List Note) → TracesStep genesis.cluster n o step here → Traced given said
      → Traced (o ∷ given) (step ∷ said)
  joined o given step said here j rest = (here ++ rest.0, (here, rest.0, refl, j, rest.1))

  -- of one that was refused
  trace_refused : (given : List (Option (List ℕ))) → Traced given []
  trace_refused [] = ([], refl)
  trace_refused (o ∷ given) =
      let asks = asks_something genesis.cluster o in
      let rest = trace_refused given in
      let j : TracesStep genesis.cluster n o ([], []) ((asked_note asks.0 ++ []) ++ []) =
      record { request = asks.0; asks = asks.1; told = []; tells_of = refl; trace_is = refl } in
      (((asked_note asks.0 ++ []) ++ []) ++ rest.0, ((asked_note asks.0 ++ []) ++ [], rest.0, refl, j, rest.1))

  module _ (sim_nodes : List Node) (index : ℕ) (node : Node) (at : At sim_nodes index node)
      (s : ServerValue ReplicaValue) where
    -- what a step gives to be sent reads
    step_tells : (r mid : ReplicaValue) (i : Input) (step : StepSaid)
        → StepGoes genesis n sim_nodes index node at s r i mid step → (sent : List Datagram) (trace : List Note)
        → MayCome genesis sent (heard_by i)
        → IsUpWith genesis n sim_nodes index node at s r sent trace → (told : List Note)
        × RecordsReplies (batch_of n step.1) told
    step_tells r mid i step goes sent trace may w =
        let asks = asks_something genesis.cluster (heard_by i) in
        let since = asked_maybe ServerHolds server_disks table_meaning genesis _ sent trace w asks.0 in
        let h = happened genesis sent (trace ++ asked_note asks.0) in
        let hears = heard genesis sent trace (heard_by i) asks.0 may asks.1 in
        let g = goes.0 h (fits genesis n sim_nodes index node at s r sent (trace ++ asked_note asks.0) since)
        (input_fits h i hears) step.1 (λ l c. c) in
        tells_something (batch_of n step.1) (λ d c. let p = g.may d c in (said_by genesis n p.message, p.spelled))

    step_joins : (i : Input) (step : StepSaid) (told : (notes : List Note) × RecordsReplies (batch_of n step.1) notes)
        → TracesStep genesis.cluster n (heard_by i) step
        ((asked_note (asks_something genesis.cluster (heard_by i)).0 ++ step.0) ++ told.0)
    step_joins i step told =
        record {
          request = (asks_something genesis.cluster (heard_by i)).0;
          asks = (asks_something genesis.cluster (heard_by i)).1;
          told = told.0;
          tells_of = told.1;
          trace_is = refl;
        }

    -- of one that goes through
    trace_through : (is : List Input) (r q : ReplicaValue) (said : List StepSaid)
        → GoesThrough table_meaning n r is q said → (sent : List Datagram) (trace : List Note)
        → AllMay genesis sent (map heard_by is)
        → IsUpWith genesis n sim_nodes index node at s r sent trace → Traced (map heard_by is) said
    trace_through [] r q said goes sent trace may w = ([], refl)
    trace_through (i ∷ is) r q said goes sent trace may w =
        let mid : ReplicaValue = goes.0 in
        let step : StepSaid = (goes.1, goes.2) in
        let told = step_tells r mid i step (goes.5, goes.6) sent trace may.0 w in
        let here = (asked_note (asks_something genesis.cluster (heard_by i)).0 ++ step.0) ++ told.0 in
        let first = step_on genesis n sim_nodes index node at s r mid i step (goes.5, goes.6) here
        (step_joins i step told) sent trace may.0 w in
        let rest = trace_through is mid q goes.3 goes.7 (sent ++ batch_of n step.1) (trace ++ here)
        (all_later genesis sent (batch_of n step.1) (map heard_by is) may.1) first in
        subst (λ (l : List StepSaid). Traced (map heard_by (i ∷ is)) l) (sym goes.4)
        (joined (heard_by i) (map heard_by is) step goes.3 here (step_joins i step told) rest)

    module _ (Metered : Type 0) (given : List (Option (List ℕ))) (r : ReplicaValue)
        (envelopes : List EnvelopeValue) (q : ReplicaValue)
        (sent : List Datagram) (trace : List Note) (may : AllMay genesis sent given)
        (w : IsUpWith genesis n sim_nodes index node at s r sent trace) where
      trace_by : (comes : SaysByGroup table_meaning IsTableText Metered r given envelopes q ⊎ IsSilenced envelopes q)
          → Traced given (steps_of Metered comes)
      trace_by (inl group) =
          let m = subst (λ (g : List (Option (List ℕ))). AllMay genesis sent g) (sym group.are_given) may in
          let through = group.goes genesis n (remembers genesis n sim_nodes index node at s r sent trace w) n in
          subst (λ (g : List (Option (List ℕ))). Traced g group.said) group.are_given
          (trace_through group.inputs r q group.said through sent trace m w)
      trace_by (inr silent) = trace_refused given

      pub trace_group : (says : SaysOf table_meaning IsTableText Metered r given envelopes q)
          → Traced given (steps_of Metered says.comes)
      trace_group says = trace_by says.comes
