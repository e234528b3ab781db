-- The moves of processes lead their cluster on.
use Rattle.std.proofs.Common.{◌≡◌, ℕ, zero, suc, ◌<◌, true, Option, None, List, [], ◌∷◌, ◌++◌, ◌⊎◌, length, set, refl}
use Rattle.std.proofs.Common.{ap, sym, ◌∙◌, subst, subst₂, inl, inr, append_assoc, append-nil, arith}
use Rattle.std.specs.List.{AllByRecursion}
use Rattle.std.proofs.lemmas.Bool.{cases_eq}
use Rattle.std.proofs.lemmas.List.{length-set, get_or-set_other, map-append}
use Rattle.std.specs.declared.net.socket_addr.SocketAddr.{SocketAddr}
use Rattle.lk_node_interface.specs.Envelopes.{EnvelopeValue, batch_of, datagram_of}
use Rattle.lk_node_interface.specs.declared.note.Note.{Note}
use Rattle.lk_node.specs.Histories.{Genesis, Datagram}
use Rattle.lk_replica.specs.ReplicaValue.{ReplicaValue}
use Rattle.lk_server.specs.Servers.{ServerValue, Turn, LastTurn, IsIdle}
use Rattle.lk_node_process.specs.Turns.{HasFollowedNoStranger, HasFollowedStranger, envelopes_in}
use Rattle.lk_sim.specs.Networks.{Appears}
use Rattle.lk_sim_nodes.specs.SimNodes.{At}
use Rattle.lk_sim_nodes.specs.declared.end.End.{End}
use Rattle.lk_sim_nodes.specs.declared.sim_node.RunState.{RunState}
use Rattle.lk_sim_nodes.specs.declared.sim_node.RunState.TheVariants.{Up, Down}
use Rattle.lk_sim.proofs.Networks.{at_set, at_set_here, set_twice}
use Rattle.lk_cluster_theorems.specs.Clusters.{Node, Cluster, Network, Says, IsReachable}
use Rattle.lk_cluster_theorems.specs.Continuing.{node_of, HasNode, Continues}
use Rattle.lk_cluster_theorems.specs.Processes.{SaysIfHonest, StartsNode, StartIsRefused, TurnsNode, EndsNode}
use Rattle.lk_cluster_theorems.specs.Processes.{StopsNode}
use Rattle.lk_cluster_theorems.specs.Processes.{IsMove, Move, envelopes_by, MayArrive, TracesTurn, Traces, TraceAll}
use Rattle.lk_cluster_theorems.specs.Processes.{Fit}
use Rattle.lk_cluster_theorems.specs.Processes.{MayAllArrive, sent_by, RunTo, HasRun, sim_nodes_after, AreOwn, MixRuns}
use Rattle.lk_cluster_theorems.specs.Processes.{MixWith, LeadOn, GoOn, AreNewAfter, all_envelopes}
use Rattle.lk_cluster_theorems.specs.Processes.{new_cluster}
use Rattle.lk_cluster_theorems.proofs.Continuing.{continued, Leads, leads_on, reaches, start_leads, refused_start_leads}
use Rattle.lk_cluster_theorems.proofs.Continuing.{stop_leads, last_turn_leads, last_trace, TracesOf, done_leads}
use Rattle.lk_cluster_theorems.proofs.Continuing.{done_trace, by_one}
use Rattle.lk_cluster_theorems.proofs.Keeping.{IsSound, Unforged, reachable_sound}
use Rattle.lk_cluster_theorems.proofs.Saying.{last_so}
use Rattle.lk_cluster_theorems.proofs.Serving.{begun_in, refused_rests}

module _ (Metered observable Honest : Type 0) (honest : Honest) where
  -- what the replica of an honest device says
  abbrev so : (old : ReplicaValue) (given : List (Option (List ℕ))) (envelopes : List EnvelopeValue)
      (new : ReplicaValue)
      → SaysIfHonest Metered Honest old given envelopes new → Says Metered old given envelopes new
  so old given envelopes new says = says honest

  module _ (May : Network) where
    -- ---- a move

    to_traces : (genesis : Genesis) (n : ℕ) (came frames : List (SocketAddr × List ℕ))
        (old new : ServerValue ReplicaValue)
        (turn : Turn (SaysIfHonest Metered Honest) observable came old new ⊎ IsIdle observable frames old new)
        (notes : List Note) → TracesTurn Metered observable Honest genesis honest n turn notes
        → TracesOf May Metered observable (SaysIfHonest Metered Honest) so genesis.cluster n turn notes
    to_traces genesis n came frames old new (inl turn) notes traces = traces
    to_traces genesis n came frames old new (inr idle) notes traces = traces

    of_traces : (genesis : Genesis) (n : ℕ) (came frames : List (SocketAddr × List ℕ))
        (old new : ServerValue ReplicaValue)
        (turn : Turn (SaysIfHonest Metered Honest) observable came old new ⊎ IsIdle observable frames old new)
        (notes : List Note)
        → TracesOf May Metered observable (SaysIfHonest Metered Honest) so genesis.cluster n turn notes
        → TracesTurn Metered observable Honest genesis honest n turn notes
    of_traces genesis n came frames old new (inl turn) notes traces = traces
    of_traces genesis n came frames old new (inr idle) notes traces = traces

    module _ (old : Cluster) (index n : ℕ) (before after : RunState (ServerValue ReplicaValue))
        (at : HasNode old index n before) where
      is_now : (run_state : RunState (ServerValue ReplicaValue)) → before ≡ run_state → HasNode old index n run_state
      is_now run_state was = subst (λ (l : RunState (ServerValue ReplicaValue)). HasNode old index n l) was at

      and_is : (run_state : RunState (ServerValue ReplicaValue)) (envelopes : List EnvelopeValue) (notes : List Note)
          → after ≡ run_state
          → Leads May Metered observable old (continued old index n run_state envelopes notes)
          → Leads May Metered observable old (continued old index n after envelopes notes)
      and_is run_state envelopes notes now leads =
          subst (λ (l : RunState (ServerValue ReplicaValue)). Leads May Metered observable old
          (continued old index n l envelopes notes)) (sym now) leads

      starts_lead : (x : StartsNode Metered observable Honest old.genesis n before after) (notes : List Note)
          → notes ≡ (x.starts_as.comes_up honest).notes
          → Leads May Metered observable old (continued old index n after [] notes)
      starts_lead x notes traces =
          let begun = begun_in Honest old.genesis n x.disks x.server honest x.starts_as in
          and_is (Up x.server) [] notes x.up
          (subst (λ (more : List Note). Leads May Metered observable old (continued old index n (Up x.server) [] more))
          (sym traces)
          (start_leads May Metered observable old index n x.device (is_now (Down x.device) x.was) x.disks x.same
          x.server begun))

      refused_leads : (x : StartIsRefused Metered observable Honest old.genesis n before after) (notes : List Note)
          → notes ≡ [] → Leads May Metered observable old (continued old index n after [] notes)
      refused_leads x notes traces =
          and_is (Down x.left) [] notes x.down
          (subst (λ (more : List Note). Leads May Metered observable old (continued old index n (Down x.left) [] more))
          (sym traces)
          (refused_start_leads May Metered observable old index n x.device (is_now (Down x.device) x.was) x.left
          (refused_rests Honest honest old.genesis n x.device x.left x.disks x.same x.told x.rests x.refused x.leaves)))

      turns_lead : (After : ServerValue ReplicaValue → Type 0)
          (x : TurnsNode Metered observable Honest old.genesis n before after After)
          → May old.genesis old.sent x.server x.turn.came → (notes : List Note)
          → TracesTurn Metered observable Honest old.genesis honest n x.turn.turn notes
          → Leads May Metered observable old
          (continued old index n after (envelopes_in (SaysIfHonest Metered Honest) observable x.turn.turn) notes)
      turns_lead After x may notes traces =
          and_is (Up x.after) (envelopes_in (SaysIfHonest Metered Honest) observable x.turn.turn) notes x.up
          (done_leads May Metered observable (SaysIfHonest Metered Honest) so None None None After old index n x.server
          x.after (is_now (Up x.server) x.was) x.turn may notes
          (to_traces old.genesis n x.turn.came x.turn.frames x.server x.turn.mid x.turn.turn notes traces))

      ends_lead : (x : EndsNode Metered observable Honest old.genesis n before after)
          → May old.genesis old.sent x.server x.came → (notes : List Note)
          → Traces Metered observable Honest old.genesis honest {n = n} {old = before} {new = after}
          (inr (inr (inr (inr (inl x))))) notes
          → Leads May Metered observable old (continued old index n after x.turn.hands_on.envelopes notes)
      ends_lead x may notes traces =
          let turn : LastTurn (Says Metered) observable x.came x.server x.after =
          last_so (SaysIfHonest Metered Honest) (Says Metered) so observable x.came x.server x.after x.turn in
          let ended : x.after.replica.failed ≡ true = sym x.failure ∙ x.turn.ended in
          and_is (Down x.left) x.turn.hands_on.envelopes notes x.down
          (last_turn_leads May Metered observable old index n x.server x.after (is_now (Up x.server) x.was) x.came
          may turn ended x.left x.leaves notes traces)

      stops_lead : (x : StopsNode Metered observable Honest old.genesis n before after) (notes : List Note) → notes ≡ []
          → Leads May Metered observable old (continued old index n after [] notes)
      stops_lead x notes traces =
          and_is (Down x.left) [] notes x.down
          (subst (λ (more : List Note). Leads May Metered observable old (continued old index n (Down x.left) [] more))
          (sym traces) (stop_leads May Metered observable old index n before at x.left x.kept))

      move_leads : (does : IsMove Metered observable Honest old.genesis n before after)
          → MayArrive Metered observable Honest old.genesis May old.sent does → (notes : List Note)
          → Traces Metered observable Honest old.genesis honest does notes
          → Leads May Metered observable old
          (continued old index n after (envelopes_by Metered observable Honest old.genesis does) notes)
      move_leads (inl x) may notes traces = starts_lead x notes traces
      move_leads (inr (inl x)) may notes traces = refused_leads x notes traces
      move_leads (inr (inr (inl x))) may notes traces = turns_lead HasFollowedNoStranger x may notes traces
      move_leads (inr (inr (inr (inl x)))) may notes traces = turns_lead HasFollowedStranger x may notes traces
      move_leads (inr (inr (inr (inr (inl x))))) may notes traces = ends_lead x may notes traces
      move_leads (inr (inr (inr (inr (inr x))))) may notes traces = stops_lead x notes traces

      -- it adds something to the trace
      module _ (unforged : Unforged May) (w : IsSound old) where
        turns_trace : (After : ServerValue ReplicaValue → Type 0)
            (x : TurnsNode Metered observable Honest old.genesis n before after After)
            → May old.genesis old.sent x.server x.turn.came
            → (notes : List Note) × TracesTurn Metered observable Honest old.genesis honest n x.turn.turn notes
        turns_trace After x may =
            let t = done_trace May Metered observable (SaysIfHonest Metered Honest) so unforged old w index n x.server
            x.turn.mid (is_now (Up x.server) x.was) x.turn.came x.turn.frames may x.turn.turn in
            (t.0, of_traces old.genesis n x.turn.came x.turn.frames x.server x.turn.mid x.turn.turn t.0 t.1)

        move_traces : (does : IsMove Metered observable Honest old.genesis n before after)
            → MayArrive Metered observable Honest old.genesis May old.sent does
            → (notes : List Note) × Traces Metered observable Honest old.genesis honest does notes
        move_traces (inl x) may = ((x.starts_as.comes_up honest).notes, refl)
        move_traces (inr (inl x)) may = ([], refl)
        move_traces (inr (inr (inl x))) may = turns_trace HasFollowedNoStranger x may
        move_traces (inr (inr (inr (inl x)))) may = turns_trace HasFollowedStranger x may
        move_traces (inr (inr (inr (inr (inl x))))) may =
            last_trace May Metered observable unforged old w index n x.server x.after (is_now (Up x.server) x.was)
            x.came may (last_so (SaysIfHonest Metered Honest) (Says Metered) so observable x.came x.server
            x.after x.turn)
        move_traces (inr (inr (inr (inr (inr x))))) may = ([], refl)

    -- ---- moves, from a cluster of this genesis

    module _ (genesis first : Genesis) where
      abbrev cluster_of : List Node → List Datagram → List Note → Option End → Cluster
      cluster_of sim_nodes sent trace ended =
          record { genesis = first; sim_nodes = sim_nodes; sent = sent; trace = trace; ended = ended }

      moves_lead : (moves : List (Move Metered observable Honest first)) (sim_nodes : List Node) (sent : List Datagram)
          (trace : List Note) (ended : Option End)
          → IsReachable May Metered observable genesis (cluster_of sim_nodes sent trace ended)
          → Fit Metered observable Honest first sim_nodes moves
          → MayAllArrive Metered observable Honest first May sent moves → (notes : List Note)
          → TraceAll Metered observable Honest first honest moves notes
          → LeadOn Metered observable Honest first May genesis (cluster_of sim_nodes sent trace ended) moves notes
      moves_lead [] sim_nodes sent trace ended all fit may notes traces =
          record {
            cluster = cluster_of sim_nodes sent trace ended;
            events = [];
            follows = refl;
            reachable = all;
            keeps_genesis = refl;
            sim_nodes = refl;
            sent = sym (append-nil sent);
            trace = sym (append-nil trace) ∙ ap (λ (l : List Note). trace ++ l) (sym traces);
          }
      moves_lead (m ∷ moves) sim_nodes sent trace ended all fit may notes traces =
          let old = cluster_of sim_nodes sent trace ended in
          let envelopes = envelopes_by Metered observable Honest first m.does in
          let batch = batch_of m.number envelopes in
          let next = continued old m.index m.number m.after envelopes traces.0 in
          let leads : Leads May Metered observable old next =
          move_leads old m.index m.number m.before m.after fit.0 m.does may.0 traces.0 traces.3 in
          let rest = moves_lead moves (set sim_nodes m.index (node_of m.number m.after)) (sent ++ batch)
          (trace ++ traces.0) ended (reaches May Metered observable genesis old next all leads) fit.1 may.1
          traces.1 traces.4 in
          let on = leads_on May Metered observable old next rest.cluster leads (rest.events, rest.follows) in
          record {
            cluster = rest.cluster;
            events = on.0;
            follows = on.1;
            reachable = rest.reachable;
            keeps_genesis = rest.keeps_genesis;
            sim_nodes = rest.sim_nodes;
            sent = rest.sent ∙ append_assoc sent batch (sent_by Metered observable Honest first moves);
            trace = rest.trace ∙ append_assoc trace traces.0 traces.1
                ∙ ap (λ (l : List Note). trace ++ l) (sym traces.2);
          }

      moves_trace : Unforged May → (moves : List (Move Metered observable Honest first)) (sim_nodes : List Node)
          (sent : List Datagram) (trace : List Note) (ended : Option End)
          → IsReachable May Metered observable genesis (cluster_of sim_nodes sent trace ended)
          → Fit Metered observable Honest first sim_nodes moves
          → MayAllArrive Metered observable Honest first May sent moves
          → (notes : List Note) × TraceAll Metered observable Honest first honest moves notes
      moves_trace unforged [] sim_nodes sent trace ended all fit may = ([], refl)
      moves_trace unforged (m ∷ moves) sim_nodes sent trace ended all fit may =
          let old = cluster_of sim_nodes sent trace ended in
          let envelopes = envelopes_by Metered observable Honest first m.does in
          let t = move_traces old m.index m.number m.before m.after fit.0 unforged
          (reachable_sound May Metered observable unforged genesis old all) m.does may.0 in
          let next = continued old m.index m.number m.after envelopes t.0 in
          let leads : Leads May Metered observable old next =
          move_leads old m.index m.number m.before m.after fit.0 m.does may.0 t.0 t.1 in
          let rest = moves_trace unforged moves (set sim_nodes m.index (node_of m.number m.after))
          (sent ++ batch_of m.number envelopes) (trace ++ t.0) ended
          (reaches May Metered observable genesis old next all leads) fit.1 may.1 in
          (t.0 ++ rest.0, (t.0, rest.0, refl, t.1, rest.1))

    pub moves_go_on : Unforged May → (genesis : Genesis) (old : Cluster)
        → IsReachable May Metered observable genesis old
        → (moves : List (Move Metered observable Honest old.genesis))
        → Fit Metered observable Honest old.genesis old.sim_nodes moves
        → MayAllArrive Metered observable Honest old.genesis May old.sent moves
        → GoOn Metered observable Honest old.genesis honest May genesis old moves
    moves_go_on unforged genesis old all moves fit may =
        let t = moves_trace genesis old.genesis unforged moves old.sim_nodes old.sent old.trace old.ended all fit may in
        record {
          notes = t.0;
          traces = t.1;
          lead = moves_lead genesis old.genesis moves old.sim_nodes old.sent old.trace old.ended all fit may;
        }

-- ---- runs that are mixed

at_some : {X : Type 0} (xs : List X) (k : ℕ) → k < length xs → (x : X) × At xs k x
at_some [] k lt = absurd (omega (arith, lt))
at_some (x ∷ xs) zero lt = (x, (omega arith, refl))
at_some (x ∷ xs) (suc k) lt = let r = at_some xs k (omega (arith, lt)) in (r.0, (omega (arith, r.1.0), r.1.1))

at_same : {X : Type 0} (xs : List X) (k : ℕ) (x y : X) → At xs k x → At xs k y → x ≡ y
at_same [] k x y a b = absurd (omega (arith, a.0))
at_same (z ∷ xs) zero x y a b = sym a.1 ∙ b.1
at_same (z ∷ xs) (suc k) x y a b = at_same xs k x y (omega (arith, a.0), a.1) (omega (arith, b.0), b.1)

at_other : {X : Type 0} (xs : List X) (i : ℕ) (y : X) (j : ℕ) (x : X) → (j ≡ i → ⊥) → At xs j x → At (set xs i y) j x
at_other xs i y j x ne at =
    (subst (λ l. j < l) (sym (length-set xs i y)) at.0, get_or-set_other xs i j y x ne ∙ at.1)

module _ (Metered observable Honest : Type 0) (genesis : Genesis) where
  still_placed : (sim_nodes : List Node) (index : ℕ) (node : Node)
      (moves : List (Move Metered observable Honest genesis))
      → AllByRecursion (λ (m : Move Metered observable Honest genesis). m.index < length sim_nodes) moves
      → AllByRecursion (λ (m : Move Metered observable Honest genesis). m.index < length
      (set sim_nodes index node)) moves
  still_placed sim_nodes index node moves placed =
      subst (λ (l : ℕ). AllByRecursion (λ (m : Move Metered observable Honest genesis). m.index < l) moves)
      (sym (length-set sim_nodes index node)) placed

  -- its first move is the first of them
  first_own : (node : Node) (m : Move Metered observable Honest genesis)
      (moves : List (Move Metered observable Honest genesis)) (own : List (Move Metered observable Honest genesis))
      (last : Node) → RunTo Metered observable Honest genesis m.index node own last
      → AreOwn Metered observable Honest genesis m.index own (m ∷ moves)
      → (node ≡ node_of m.number m.before)
      × HasRun Metered observable Honest genesis m.index (node_of m.number m.after) moves
  first_own node m moves own last run (inl here) =
      let r = subst (λ (l : List (Move Metered observable Honest genesis)).
      RunTo Metered observable Honest genesis m.index node l last) here.2 run in
      (r.1, record { own = here.1; last = last; run = r.2; are = here.3 })
  first_own node m moves own last run (inr other) = absurd (other.0 refl)

  -- and is none of another's
  other_own : (index : ℕ) (node : Node) (m : Move Metered observable Honest genesis)
      (moves : List (Move Metered observable Honest genesis)) → (index ≡ m.index → ⊥)
      → (own : List (Move Metered observable Honest genesis)) (last : Node)
      → RunTo Metered observable Honest genesis index node own last
      → AreOwn Metered observable Honest genesis index own (m ∷ moves)
      → HasRun Metered observable Honest genesis index node moves
  other_own index node m moves ne own last run (inl here) = absurd (ne (sym here.0))
  other_own index node m moves ne own last run (inr other) =
      record { own = own; last = last; run = run; are = other.1 }

  pub mixed_fit : (sim_nodes : List Node) (moves : List (Move Metered observable Honest genesis))
      → MixRuns Metered observable Honest genesis sim_nodes moves → Fit Metered observable Honest genesis
      sim_nodes moves
  mixed_fit sim_nodes [] mix = tt
  mixed_fit sim_nodes (m ∷ moves) mix =
      let there = at_some sim_nodes m.index mix.placed.0 in
      let its = mix.runs m.index there.0 there.1 in
      let mine = first_own there.0 m moves its.own its.last its.run its.are in
      let next = node_of m.number m.after in
      let now = set sim_nodes m.index next in
      let rest : MixRuns Metered observable Honest genesis now moves = record {
        placed = still_placed sim_nodes m.index next moves mix.placed.1;
        runs = λ index node at. elim (at_set sim_nodes m.index next index node at) [
          | inl here ↦ subst₂ (λ (k : ℕ) (s : Node). HasRun Metered observable Honest genesis k s moves)
              (sym here.0) here.1 mine.1
          | inr other ↦
              let r = mix.runs index node other.1 in
              other_own index node m moves other.0 r.own r.last r.run r.are
        ];
      } in
      (subst (λ (s : Node). At sim_nodes m.index s) mine.0 there.1, mixed_fit now moves rest)

  -- after its run, and those of the others, a node is as its run has left it
  pub run_leaves : (moves : List (Move Metered observable Honest genesis)) (sim_nodes : List Node) (index : ℕ)
      (node : Node)
      → At sim_nodes index node → (own : List (Move Metered observable Honest genesis)) (last : Node)
      → RunTo Metered observable Honest genesis index node own last
      → AreOwn Metered observable Honest genesis index own moves
      → At (sim_nodes_after Metered observable Honest genesis sim_nodes moves) index last
  run_leaves [] sim_nodes index node at own last run are =
      let is : last ≡ node = subst (λ (l : List (Move Metered observable Honest genesis)).
      RunTo Metered observable Honest genesis index node l last) are run in
      subst (λ (s : Node). At sim_nodes index s) (sym is) at
  run_leaves (m ∷ moves) sim_nodes index node at own last run (inl here) =
      let r = subst (λ (l : List (Move Metered observable Honest genesis)).
      RunTo Metered observable Honest genesis index node l last) here.2 run in
      let next = node_of m.number m.after in
      run_leaves moves (set sim_nodes m.index next) index next
      (subst (λ (k : ℕ). At (set sim_nodes k next) index next) (sym here.0) (at_set_here sim_nodes index next
      at.0)) here.1
      last r.2 here.3
  run_leaves (m ∷ moves) sim_nodes index node at own last run (inr other) =
      let next = node_of m.number m.after in
      run_leaves moves (set sim_nodes m.index next) index node
      (at_other sim_nodes m.index next index node (λ e. other.0 (sym e)) at) own last run other.1

  -- a run of one node among those of the others
  pub mixed_with : (sim_nodes : List Node) (index : ℕ) (node : Node) → At sim_nodes index node
      → (own moves : List (Move Metered observable Honest genesis)) (last : Node)
      → RunTo Metered observable Honest genesis index node own last
      → MixWith Metered observable Honest genesis sim_nodes index own moves
      → MixRuns Metered observable Honest genesis sim_nodes moves
  mixed_with sim_nodes index node at own moves last run mix = record {
    placed = mix.placed;
    runs = λ k other there. elim (cases_eq k index) [
      | inl same ↦
          let is : node ≡ other = at_same sim_nodes index node other at
          (subst (λ (j : ℕ). At sim_nodes j other) same there) in
          let its : HasRun Metered observable Honest genesis index node moves =
          record { own = own; last = last; run = run; are = mix.are_own } in
          subst₂ (λ (j : ℕ) (s : Node). HasRun Metered observable Honest genesis j s moves) (sym same) is its
      | inr differ ↦ mix.others k other differ there
    ];
  }

  -- ---- one run alone

  alone_fit : (index : ℕ) (own : List (Move Metered observable Honest genesis)) (sim_nodes : List Node)
      (node last : Node)
      → At sim_nodes index node → RunTo Metered observable Honest genesis index node own last
      → Fit Metered observable Honest genesis sim_nodes own
  alone_fit index [] sim_nodes node last at run = tt
  alone_fit index (m ∷ own) sim_nodes node last at run =
      let next = node_of m.number m.after in (
        subst₂ (λ (k : ℕ) (s : Node). At sim_nodes k s) (sym run.0) run.1 at,
        alone_fit index own (set sim_nodes m.index next) next last
            (subst (λ (k : ℕ). At (set sim_nodes k next) index next) (sym run.0)
            (at_set_here sim_nodes index next at.0))
            run.2,
      )

  same_again : {X : Type 0} (xs : List X) (index : ℕ) (x : X) → At xs index x → xs ≡ set xs index x
  same_again [] index x at = absurd (omega (arith, at.0))
  same_again (y ∷ xs) zero x at = λ i. at.1 i ∷ xs
  same_again (y ∷ xs) (suc index) x at = ap (λ l. y ∷ l) (same_again xs index x (omega (arith, at.0), at.1))

  alone_sim_nodes : (index : ℕ) (own : List (Move Metered observable Honest genesis)) (sim_nodes : List Node)
      (node last : Node)
      → At sim_nodes index node → RunTo Metered observable Honest genesis index node own last
      → sim_nodes_after Metered observable Honest genesis sim_nodes own ≡ set sim_nodes index last
  alone_sim_nodes index [] sim_nodes node last at run =
      same_again sim_nodes index last (subst (λ (s : Node). At sim_nodes index s) (sym run) at)
  alone_sim_nodes index (m ∷ own) sim_nodes node last at run =
      let next = node_of m.number m.after in
      alone_sim_nodes index own (set sim_nodes m.index next) next last
      (subst (λ (k : ℕ). At (set sim_nodes k next) index next) (sym run.0) (at_set_here sim_nodes index
      next at.0)) run.2
      ∙ ap (λ (k : ℕ). set (set sim_nodes k next) index last) run.0 ∙ set_twice sim_nodes index next last

  alone_sent : (index : ℕ) (own : List (Move Metered observable Honest genesis)) (node last : Node)
      → RunTo Metered observable Honest genesis index node own last
      → sent_by Metered observable Honest genesis own
      ≡ batch_of node.number (all_envelopes Metered observable Honest genesis own)
  alone_sent index [] node last run = refl
  alone_sent index (m ∷ own) node last run =
      let envelopes = envelopes_by Metered observable Honest genesis m.does in
      let more = all_envelopes Metered observable Honest genesis own in
      ap (λ (l : List Datagram). batch_of m.number envelopes ++ l)
      (alone_sent index own (node_of m.number m.after) last run.2)
      ∙ sym (map-append (datagram_of m.number) envelopes more)
      ∙ ap (λ (s : Node). batch_of s.number (envelopes ++ more)) (sym run.1)

pub alone_continues : (Metered observable Honest : Type 0) (honest : Honest) (May : Network) → Unforged May
    → (genesis : Genesis) (old : Cluster) → IsReachable May Metered observable genesis old
    → (index n : ℕ) (run_state last : RunState (ServerValue ReplicaValue)) → HasNode old index n run_state
    → (own : List (Move Metered observable Honest old.genesis))
    → RunTo Metered observable Honest old.genesis index (node_of n run_state) own (node_of n last)
    → MayAllArrive Metered observable Honest old.genesis May old.sent own
    → Continues May Metered observable genesis old index n last
    (all_envelopes Metered observable Honest old.genesis own)
    (TraceAll Metered observable Honest old.genesis honest own)
alone_continues Metered observable Honest honest May unforged genesis old all index n run_state last at own run may =
    let g = moves_go_on Metered observable Honest honest May unforged genesis old all own
    (alone_fit Metered observable Honest old.genesis index own old.sim_nodes (node_of n run_state)
    (node_of n last) at run) may
    in
    let on = g.lead g.notes g.traces in
    record {
      cluster = on.cluster;
      events = on.events;
      follows = on.follows;
      reachable = on.reachable;
      keeps_genesis = on.keeps_genesis;
      sim_nodes = on.sim_nodes ∙ alone_sim_nodes Metered observable Honest old.genesis index own old.sim_nodes
          (node_of n run_state)
          (node_of n last) at run;
      sent = on.sent ∙ ap (λ (l : List Datagram). old.sent ++ l)
          (alone_sent Metered observable Honest old.genesis index own (node_of n run_state) (node_of n last) run);
      notes = g.notes;
      adds = g.traces;
      trace = on.trace;
    }

-- ---- a new cluster

module _ (May : Network) (Metered observable : Type 0) (genesis : Genesis) where
  new_appear : (earlier nodes : List Node) → AreNewAfter earlier nodes
      → Leads May Metered observable (new_cluster genesis earlier) (new_cluster genesis (earlier ++ nodes))
  new_appear earlier [] new =
      ([], ap (λ (l : List Node). new_cluster genesis l) (append-nil earlier))
  new_appear earlier (node ∷ nodes) new =
      let next = earlier ++ node ∷ [] in
      let appears : Appears (new_cluster genesis earlier) (new_cluster genesis next) = record {
        sim_node = node;
        unused = new.3;
        device = new.0;
        down = new.1;
        empty = new.2;
        sim_nodes = refl;
        adds = record { genesis = refl; sent = refl; trace = refl };
      } in
      let rest = new_appear next nodes new.4 in
      subst (λ (l : List Node). Leads May Metered observable (new_cluster genesis earlier) (new_cluster genesis l))
      (append_assoc earlier (node ∷ []) nodes)
      (leads_on May Metered observable (new_cluster genesis earlier) (new_cluster genesis next)
      (new_cluster genesis (next ++ nodes))
      (by_one May Metered observable (new_cluster genesis earlier) (new_cluster genesis next) (inl appears)) rest)

  pub new_reachable : (nodes : List Node) → AreNewAfter [] nodes
      → IsReachable May Metered observable genesis (new_cluster genesis nodes)
  new_reachable nodes new = new_appear [] nodes new
