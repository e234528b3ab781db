-- What happens to a node leads its cluster on.
use Rattle.std.proofs.Common.{◌≡◌, ℕ, true, false, Option, List, [], ◌∷◌, ◌++◌, ◌⊎◌, set, refl}
use Rattle.std.proofs.Common.{ap, sym, ◌∙◌, subst, inl, inr, append-nil}
use Rattle.std.specs.declared.net.socket_addr.SocketAddr.{SocketAddr}
use Rattle.lk_disk.specs.Disk.{Disk, after_stop}
use Rattle.lk_memory_disk.specs.Memory.{Memory, disk_of}
use Rattle.lk_disk.specs.declared.device.Side.{Side}
use Rattle.lk_locks.specs.Meaning.{table_meaning}
use Rattle.lk_node_interface.specs.Envelopes.{EnvelopeValue, batch_of}
use Rattle.lk_node_interface.specs.declared.note.Note.{Note}
use Rattle.lk_node.specs.Histories.{Genesis}
use Rattle.lk_node.specs.Leavings.{DisksFit}
use Rattle.lk_replica.specs.ReplicaValue.{ReplicaValue}
use Rattle.lk_transport.specs.declared.received_watch.ReceivedWatch.{ReceivedWatch}
use Rattle.lk_server.specs.Servers.{ServerValue, Turn, LastTurn, IsIdle}
use Rattle.lk_probe.specs.declared.reported.Reported.{Reported}
use Rattle.lk_transport.specs.declared.received_probe.ReceivedProbe.{ReceivedProbe}
use Rattle.lk_address_book.specs.declared.hosts.HostNews.{HostNews}
use Rattle.lk_node_process.specs.Turns.{ActsBeside, DoesTurnWith, TellsFailure, envelopes_in}
use Rattle.lk_sim.specs.Networks.{IsStillDown, RestsBy, Stops, nothing}
use Rattle.lk_sim_nodes.specs.Rooms.{AreShort}
use Rattle.lk_sim_nodes.specs.declared.sim_node.RunState.{RunState}
use Rattle.lk_sim_nodes.specs.declared.sim_node.RunState.TheVariants.{Up, Down}
use Rattle.lk_sim.proofs.Networks.{at_set_here, set_twice}
use Rattle.lk_cluster_theorems.specs.Clusters.{Cluster, Network, Says, steps_of, TracesGroup, HasStarted, server_disks}
use Rattle.lk_cluster_theorems.specs.Clusters.{disks_in, Starts, DoesTurn}
use Rattle.lk_cluster_theorems.specs.Clusters.{Idles, EndsByTurn, Happens, HappenAll, IsReachable}
use Rattle.lk_cluster_theorems.specs.Continuing.{node_of, HasNode, Continues, AddsNothing}
use Rattle.lk_cluster_theorems.proofs.Keeping.{IsSound, Unforged, turn_takes, ended_may, nudged_may, with_replica}
use Rattle.lk_cluster_theorems.proofs.Keeping.{beside_changes, reachable_sound}
use Rattle.lk_cluster_theorems.proofs.Saying.{turn_so}
use Rattle.lk_cluster_theorems.proofs.Tracing.{Traced, trace_group}

-- the cluster in which that node is so, and has given these envelopes to be sent, and this has joined the trace
abbrev pub continued : Cluster → ℕ → ℕ → RunState (ServerValue ReplicaValue) → List EnvelopeValue → List Note → Cluster
continued old index n run_state envelopes trace =
    record {
      genesis = old.genesis;
      sim_nodes = set old.sim_nodes index (node_of n run_state);
      sent = old.sent ++ batch_of n envelopes;
      trace = old.trace ++ trace;
      ended = old.ended;
    }

module _ (May : Network) (Metered observable : Type 0) where
  -- ---- events, one after another

  -- they lead from the one cluster to the other
  abbrev pub Leads : Cluster → Cluster → Type 0
  Leads old new = (events : List Cluster) × HappenAll May Metered observable old events new

  happen_more : (first mid last : Cluster) (events more : List Cluster)
      → HappenAll May Metered observable first events mid
      → HappenAll May Metered observable mid more last → HappenAll May Metered observable first (events ++ more) last
  happen_more first mid last [] more all rest =
      subst (λ (c : Cluster). HappenAll May Metered observable c more last) all rest
  happen_more first mid last (next ∷ events) more all rest =
      (all.0, happen_more next mid last events more all.1 rest)

  pub leads_on : (first mid last : Cluster) → Leads first mid → Leads mid last → Leads first last
  leads_on first mid last all rest = (all.0 ++ rest.0, happen_more first mid last all.0 rest.0 all.1 rest.1)

  pub by_one : (old new : Cluster) → Happens May Metered observable old new → Leads old new
  by_one old new event = (new ∷ [], (event, refl))

  pub reaches : (genesis : Genesis) (old new : Cluster) → IsReachable May Metered observable genesis old
      → Leads old new → IsReachable May Metered observable genesis new
  reaches genesis old new all more = leads_on (nothing genesis) old new all more

  continues_with : (genesis : Genesis) (old : Cluster) → IsReachable May Metered observable genesis old
      → (index n : ℕ) (run_state : RunState (ServerValue ReplicaValue)) (envelopes : List EnvelopeValue)
      (notes : List Note)
      (Adds : List Note → Type 0) → Adds notes → Leads old (continued old index n run_state envelopes notes)
      → Continues May Metered observable genesis old index n run_state envelopes Adds
  continues_with genesis old all index n run_state envelopes notes Adds adds leads =
      let new = continued old index n run_state envelopes notes in
      record {
        cluster = new;
        events = leads.0;
        follows = leads.1;
        reachable = reaches genesis old new all leads;
        keeps_genesis = refl;
        sim_nodes = refl;
        sent = refl;
        notes = notes;
        adds = adds;
        trace = refl;
      }

  -- ---- what happens to a node

  -- a start
  pub start_leads : (old : Cluster) (index n : ℕ) (device : Memory) → HasNode old index n (Down device)
      → (disks : Side → Disk) → ((s : Side) → disk_of device s ≡ disks s) → (server : ServerValue ReplicaValue)
      (is : HasStarted old.genesis n disks server) → Leads old (continued old index n (Up server) [] is.notes)
  start_leads old index n device at disks same server is =
      let path : disk_of device ≡ disks = λ i s. same s i in
      let new = continued old index n (Up server) [] is.notes in
      let starts : Starts old new = record {
        restarts = record {
          sim_node = node_of n (Down device);
          next = node_of n (Up server);
          replaces = record { index = index; at = at; number = refl; sim_nodes = refl };
          device = device;
          down = refl;
          replica = server;
          up = refl;
          notes = is.notes;
          restarts = record {
            goes = λ h e lawful fit. is.restarts.goes h e lawful
                (subst (λ (d : Side → Disk). DisksFit table_meaning h n d) path fit);
            short = λ short. is.restarts.short (subst (λ (d : Side → Disk). AreShort d) path short);
          };
          adds = record { genesis = refl; sent = refl; trace = refl };
        };
        loopback = is.loopback;
        alive = is.alive;
      } in
      by_one old new (inr (inl starts))

  pub start_continues : (genesis : Genesis) (old : Cluster) → IsReachable May Metered observable genesis old
      → (index n : ℕ) (device : Memory) → HasNode old index n (Down device)
      → (disks : Side → Disk) → ((s : Side) → disk_of device s ≡ disks s) → (server : ServerValue ReplicaValue)
      (is : HasStarted old.genesis n disks server)
      → Continues May Metered observable genesis old index n (Up server) [] (λ notes. notes ≡ is.notes)
  start_continues genesis old all index n device at disks same server is =
      continues_with genesis old all index n (Up server) [] is.notes (λ notes. notes ≡ is.notes) refl
      (start_leads old index n device at disks same server is)

  -- a start that is refused
  pub refused_start_leads : (old : Cluster) (index n : ℕ) (device : Memory) → HasNode old index n (Down device)
      → (left : Memory) → RestsBy table_meaning old.genesis n (disk_of device) (disk_of left)
      → Leads old (continued old index n (Down left) [] [])
  refused_start_leads old index n device at left rests =
      let new = continued old index n (Down left) [] [] in
      let stays : IsStillDown table_meaning old new = record {
        sim_node = node_of n (Down device);
        next = node_of n (Down left);
        replaces = record { index = index; at = at; number = refl; sim_nodes = refl };
        device = device;
        down = refl;
        left = left;
        still = refl;
        rests = rests;
        adds = record { genesis = refl; sent = refl; trace = refl };
      } in
      by_one old new (inr (inr (inl stays)))

  pub refused_start_continues : (genesis : Genesis) (old : Cluster) → IsReachable May Metered observable genesis old
      → (index n : ℕ) (device : Memory) → HasNode old index n (Down device)
      → (left : Memory) → RestsBy table_meaning old.genesis n (disk_of device) (disk_of left)
      → Continues May Metered observable genesis old index n (Down left) [] AddsNothing
  refused_start_continues genesis old all index n device at left rests =
      continues_with genesis old all index n (Down left) [] [] AddsNothing refl
      (refused_start_leads old index n device at left rests)

  -- a stop of a node, up or down
  pub stop_leads : (old : Cluster) (index n : ℕ) (run_state : RunState (ServerValue ReplicaValue))
      → HasNode old index n run_state
      → (left : Memory) → ((s : Side) → (k : ℕ) × (disk_of left s ≡ after_stop k (disks_in run_state s)))
      → Leads old (continued old index n (Down left) [] [])
  stop_leads old index n run_state at left kept =
      let new = continued old index n (Down left) [] [] in
      let stops : Stops server_disks old new = record {
        sim_node = node_of n run_state;
        next = node_of n (Down left);
        replaces = record { index = index; at = at; number = refl; sim_nodes = refl };
        left = left;
        down = refl;
        was_up = λ q up s. subst
            (λ (l : RunState (ServerValue ReplicaValue)). (k : ℕ) × (disk_of left s ≡ after_stop k (disks_in l s)))
            up (kept s);
        was_down = λ d is s. subst
            (λ (l : RunState (ServerValue ReplicaValue)). (k : ℕ) × (disk_of left s ≡ after_stop k (disks_in l s)))
            is (kept s);
        adds = record { genesis = refl; sent = refl; trace = refl };
      } in
      by_one old new (inr (inr (inr (inr (inr (inr stops))))))

  pub stop_continues : (genesis : Genesis) (old : Cluster) → IsReachable May Metered observable genesis old
      → (index n : ℕ) (run_state : RunState (ServerValue ReplicaValue)) → HasNode old index n run_state
      → (left : Memory) → ((s : Side) → (k : ℕ) × (disk_of left s ≡ after_stop k (disks_in run_state s)))
      → Continues May Metered observable genesis old index n (Down left) [] AddsNothing
  stop_continues genesis old all index n run_state at left kept =
      continues_with genesis old all index n (Down left) [] [] AddsNothing refl
      (stop_leads old index n run_state at left kept)

  -- an idle turn
  idle_leads : (old : Cluster) (index n : ℕ) (server after : ServerValue ReplicaValue)
      → HasNode old index n (Up server) → (frames : List (SocketAddr × List ℕ)) → IsIdle observable frames server after
      → Leads old (continued old index n (Up after) [] [])
  idle_leads old index n server after at frames idle =
      let new = continued old index n (Up after) [] [] in
      let idles : Idles observable old new = record {
        node = node_of n (Up server);
        next = node_of n (Up after);
        replaces = record { index = index; at = at; number = refl; sim_nodes = refl };
        server = server;
        was = refl;
        after = after;
        up = refl;
        idle = inl (frames, idle);
        adds = record { genesis = refl; sent = refl; trace = refl };
      } in
      by_one old new (inr (inr (inr (inr (inl idles)))))

  pub idle_continues : (genesis : Genesis) (old : Cluster) → IsReachable May Metered observable genesis old
      → (index n : ℕ) (server after : ServerValue ReplicaValue) → HasNode old index n (Up server)
      → (frames : List (SocketAddr × List ℕ)) → IsIdle observable frames server after
      → Continues May Metered observable genesis old index n (Up after) [] AddsNothing
  idle_continues genesis old all index n server after at frames idle =
      continues_with genesis old all index n (Up after) [] [] AddsNothing refl
      (idle_leads old index n server after at frames idle)

  -- what is done beside the protocol after that
  acts_lead : (old : Cluster) (index n : ℕ) (before mid after : ServerValue ReplicaValue)
      → HasNode old index n (Up before) → (envelopes : List EnvelopeValue) (notes : List Note)
      → (news : HostNews) (asked : Option ReceivedProbe) (reported : Option Reported)
      (watched : Option ReceivedWatch) → ActsBeside observable news asked reported watched mid after
      → Leads (continued old index n (Up mid) envelopes notes) (continued old index n (Up after) envelopes notes)
  acts_lead old index n before mid after at envelopes notes news asked reported watched acts =
      let turned = continued old index n (Up mid) envelopes notes in
      let new = continued old index n (Up after) envelopes notes in
      let idles : Idles observable turned new = record {
        node = node_of n (Up mid);
        next = node_of n (Up after);
        replaces = record {
          index = index;
          at = at_set_here old.sim_nodes index (node_of n (Up mid)) at.0;
          number = refl;
          sim_nodes = sym (set_twice old.sim_nodes index (node_of n (Up mid)) (node_of n (Up after)));
        };
        server = mid;
        was = refl;
        after = after;
        up = refl;
        idle = inr (news, asked, reported, watched, acts);
        adds = record {
          genesis = refl;
          sent = sym (append-nil turned.sent);
          trace = sym (append-nil turned.trace);
        };
      } in
      by_one turned new (inr (inr (inr (inr (inl idles)))))

  -- a turn
  turn_leads : (old : Cluster) (index n : ℕ) (server after : ServerValue ReplicaValue)
      → HasNode old index n (Up server) → (came : List (SocketAddr × List ℕ)) → May old.genesis old.sent server came
      → (turn : Turn (Says Metered) observable came server after) → after.replica.failed ≡ false
      → (notes : List Note)
      → TracesGroup old.genesis.cluster n turn.given (steps_of Metered turn.hands_on.says.comes) notes
      → Leads old (continued old index n (Up after) turn.hands_on.envelopes notes)
  turn_leads old index n server after at came may turn alive notes traces =
      let new = continued old index n (Up after) turn.hands_on.envelopes notes in
      let does : DoesTurn May Metered observable old new = record {
        node = node_of n (Up server);
        next = node_of n (Up after);
        replaces = record { index = index; at = at; number = refl; sim_nodes = refl };
        server = server;
        was = refl;
        after = after;
        up = refl;
        came = came;
        may = may;
        turn = turn;
        alive = alive;
        trace = notes;
        traces = traces;
        adds = record { genesis = refl; sent = refl; trace = refl };
      } in
      by_one old new (inr (inr (inr (inl does))))

  -- a turn that ends it
  pub last_turn_leads : (old : Cluster) (index n : ℕ) (server after : ServerValue ReplicaValue)
      → HasNode old index n (Up server) → (came : List (SocketAddr × List ℕ)) → May old.genesis old.sent server came
      → (turn : LastTurn (Says Metered) observable came server after) → after.replica.failed ≡ true
      → (left : Memory) → ((s : Side) → disk_of left s ≡ server_disks after s)
      → (notes : List Note)
      → TracesGroup old.genesis.cluster n turn.given (steps_of Metered turn.hands_on.says.comes) notes
      → Leads old (continued old index n (Down left) turn.hands_on.envelopes notes)
  last_turn_leads old index n server after at came may turn ended left same notes traces =
      let new = continued old index n (Down left) turn.hands_on.envelopes notes in
      let ends : EndsByTurn May Metered observable old new = record {
        node = node_of n (Up server);
        next = node_of n (Down left);
        replaces = record { index = index; at = at; number = refl; sim_nodes = refl };
        server = server;
        was = refl;
        after = after;
        left = left;
        down = refl;
        same = same;
        came = came;
        may = may;
        turn = turn;
        ended = ended;
        trace = notes;
        traces = traces;
        adds = record { genesis = refl; sent = refl; trace = refl };
      } in
      by_one old new (inr (inr (inr (inr (inr (inl ends))))))

  module _ (unforged : Unforged May) where
    -- a turn has a trace
    turn_trace : (old : Cluster) (w : IsSound old) (index n : ℕ) (server after : ServerValue ReplicaValue)
        → HasNode old index n (Up server) → (came : List (SocketAddr × List ℕ)) → May old.genesis old.sent server came
        → (turn : Turn (Says Metered) observable came server after)
        → Traced old.genesis n turn.given (steps_of Metered turn.hands_on.says.comes)
    turn_trace old w index n server after at came may turn =
        let node = node_of n (Up server) in
        let may_all = nudged_may old.genesis old.sent turn.timed turn.given turn.nudged
        (turn_takes May Metered observable unforged old old w n 64 server came turn.timed turn.may
        (w.loopback index node at server refl) may) in
        trace_group old.genesis n old.sim_nodes index node at after Metered turn.given server.replica
        turn.hands_on.envelopes
        after.replica old.sent old.trace may_all
        (with_replica old w index node at server after refl) turn.hands_on.says

    pub last_trace : (old : Cluster) (w : IsSound old) (index n : ℕ) (server after : ServerValue ReplicaValue)
        → HasNode old index n (Up server) → (came : List (SocketAddr × List ℕ)) → May old.genesis old.sent server came
        → (turn : LastTurn (Says Metered) observable came server after)
        → Traced old.genesis n turn.given (steps_of Metered turn.hands_on.says.comes)
    last_trace old w index n server after at came may turn =
        let node = node_of n (Up server) in
        let may_timed = ended_may old.genesis old.sent turn.timed turn.first.whole turn.first.front
        (turn_takes May Metered observable unforged old old w n turn.count server came turn.first.whole turn.first.may
        (w.loopback index node at server refl) may) in
        let may_all = nudged_may old.genesis old.sent turn.timed turn.given turn.nudged may_timed in
        trace_group old.genesis n old.sim_nodes index node at after Metered turn.given server.replica
        turn.hands_on.envelopes
        after.replica old.sent old.trace may_all
        (with_replica old w index node at server after refl) turn.hands_on.says

    pub turn_continues : (genesis : Genesis) (old : Cluster) → IsReachable May Metered observable genesis old
        → (index n : ℕ) (server after : ServerValue ReplicaValue) → HasNode old index n (Up server)
        → (came : List (SocketAddr × List ℕ))
        → May old.genesis old.sent server came → (turn : Turn (Says Metered) observable came server after)
        → after.replica.failed ≡ false
        → Continues May Metered observable genesis old index n (Up after) turn.hands_on.envelopes
        (TracesGroup old.genesis.cluster n turn.given (steps_of Metered turn.hands_on.says.comes))
    turn_continues genesis old all index n server after at came may turn alive =
        let t = turn_trace old (reachable_sound May Metered observable unforged genesis old all) index n server after at
        came may turn in
        continues_with genesis old all index n (Up after) turn.hands_on.envelopes t.0
        (TracesGroup old.genesis.cluster n turn.given (steps_of Metered turn.hands_on.says.comes)) t.1
        (turn_leads old index n server after at came may turn alive t.0 t.1)

    pub last_turn_continues : (genesis : Genesis) (old : Cluster) → IsReachable May Metered observable genesis old
        → (index n : ℕ) (server after : ServerValue ReplicaValue) → HasNode old index n (Up server)
        → (came : List (SocketAddr × List ℕ))
        → May old.genesis old.sent server came → (turn : LastTurn (Says Metered) observable came server after)
        → after.replica.failed ≡ true → (left : Memory) → ((s : Side) → disk_of left s ≡ server_disks after s)
        → Continues May Metered observable genesis old index n (Down left) turn.hands_on.envelopes
        (TracesGroup old.genesis.cluster n turn.given (steps_of Metered turn.hands_on.says.comes))
    last_turn_continues genesis old all index n server after at came may turn ended left same =
        let t = last_trace old (reachable_sound May Metered observable unforged genesis old all) index n server after at
        came may turn in
        continues_with genesis old all index n (Down left) turn.hands_on.envelopes t.0
        (TracesGroup old.genesis.cluster n turn.given (steps_of Metered turn.hands_on.says.comes)) t.1
        (last_turn_leads old index n server after at came may turn ended left same t.0 t.1)

  -- ---- turns of the program, of a replica that says so

  module _ (S : ReplicaValue → List (Option (List ℕ)) → List EnvelopeValue → ReplicaValue → Type 0)
      (so : (old : ReplicaValue) (given : List (Option (List ℕ))) (envelopes : List EnvelopeValue) (new : ReplicaValue)
      → S old given envelopes new → Says Metered old given envelopes new) where
    -- whether a call has ended the replica is told before what is done beside the protocol as after it
    mid_failure : (mid next : ServerValue ReplicaValue) (news : HostNews) (asked : Option ReceivedProbe)
        (reported : Option Reported) (watched : Option ReceivedWatch)
        → ActsBeside observable news asked reported watched mid next → TellsFailure next → TellsFailure mid
    mid_failure mid next news asked reported watched acts failure =
        let as_was : next ≡ record mid {
          addresses = next.addresses;
          waiting = next.waiting;
          sent = next.sent;
          socket_failures = next.socket_failures;
          incoming = next.incoming;
        } = beside_changes news asked reported watched mid next acts in
        sym (ap (λ (s : ServerValue ReplicaValue). s.failed) as_was) ∙ failure
        ∙ ap (λ (s : ServerValue ReplicaValue). s.replica.failed) as_was

    -- what one of them, or an idle one, adds to the trace
    abbrev pub TracesOf : ℕ → ℕ → {came frames : List (SocketAddr × List ℕ)} {old new : ServerValue ReplicaValue}
        → Turn S observable came old new ⊎ IsIdle observable frames old new → List Note → Type 0
    TracesOf cluster n {came = came} {old = old} {new = new} (inl turn) notes =
        let t = turn_so S (Says Metered) so observable came old new turn in
        TracesGroup cluster n t.given (steps_of Metered t.hands_on.says.comes) notes
    TracesOf cluster n (inr idle) notes = notes ≡ []

    taken_leads : (old : Cluster) (index n : ℕ) (first next : ServerValue ReplicaValue) → HasNode old index n (Up first)
        → (came frames : List (SocketAddr × List ℕ)) → May old.genesis old.sent first came
        → (turn : Turn S observable came first next ⊎ IsIdle observable frames first next) → TellsFailure next
        → (notes : List Note) → TracesOf old.genesis.cluster n turn notes
        → Leads old (continued old index n (Up next) (envelopes_in S observable turn) notes)
    taken_leads old index n first next at came frames may (inl turn) failure notes traces =
        turn_leads old index n first next at came may (turn_so S (Says Metered) so observable came first next turn)
        (sym failure ∙ turn.alive) notes traces
    taken_leads old index n first next at came frames may (inr idle) failure notes traces =
        subst (λ (more : List Note). Leads old (continued old index n (Up next) [] more)) (sym traces)
        (idle_leads old index n first next at frames idle)

    -- one of them with what is done beside the protocol after it
    pub done_leads : (kept : Option ReceivedProbe) (told : Option Reported) (wanted : Option ReceivedWatch)
        (After : ServerValue ReplicaValue → Type 0)
        (old : Cluster) (index n : ℕ) (first next : ServerValue ReplicaValue) → HasNode old index n (Up first)
        → (turn : DoesTurnWith S observable kept told wanted After first next)
        → May old.genesis old.sent first turn.came
        → (notes : List Note) → TracesOf old.genesis.cluster n turn.turn notes
        → Leads old (continued old index n (Up next) (envelopes_in S observable turn.turn) notes)
    done_leads kept told wanted After old index n first next at turn may notes traces =
        let mid = turn.mid in
        let said = envelopes_in S observable turn.turn in
        leads_on old (continued old index n (Up mid) said notes) (continued old index n (Up next) said notes)
        (taken_leads old index n first mid at turn.came turn.frames may turn.turn
        (mid_failure mid next turn.news turn.asked turn.reported turn.watched turn.acts turn.failure) notes traces)
        (acts_lead old index n first mid next at said notes turn.news turn.asked turn.reported turn.watched turn.acts)

    -- there is something that it adds
    pub done_trace : (unforged : Unforged May) (old : Cluster) → IsSound old → (index n : ℕ)
        (first mid : ServerValue ReplicaValue) → HasNode old index n (Up first)
        → (came frames : List (SocketAddr × List ℕ)) → May old.genesis old.sent first came
        → (turn : Turn S observable came first mid ⊎ IsIdle observable frames first mid)
        → (notes : List Note) × TracesOf old.genesis.cluster n turn notes
    done_trace unforged old w index n first mid at came frames may (inl turn) =
        turn_trace unforged old w index n first mid at came may (turn_so S (Says Metered) so observable came first mid
        turn)
    done_trace unforged old w index n first mid at came frames may (inr idle) = ([], refl)
