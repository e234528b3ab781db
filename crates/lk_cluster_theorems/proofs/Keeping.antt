-- What happens to a cluster keeps all that holds of it.
use Rattle.std.proofs.Common.{◌≡◌, ℕ, ◌⊎◌, true, false, Bool, Option, Some, None, List, [], ◌∷◌, ◌++◌, take, drop, set}
use Rattle.std.proofs.Common.{zero, suc, Contains, refl, ap, sym, ◌∙◌, subst, subst₂, inl, inr, append-nil, arith}
use Rattle.std.specs.Prelude.{map}
use Rattle.std.specs.List.{AllByRecursion}
use Rattle.std.proofs.lemmas.Bool.{cases_Bool}
use Rattle.std.proofs.lemmas.List.Elements.{Contains-append_left, Contains-append_right, Contains-push_cases}
use Rattle.std.specs.declared.net.socket_addr.SocketAddr.{SocketAddr}
use Rattle.lk_memory_disk.specs.Memory.{Memory, disk_of}
use Rattle.lk_disk.specs.declared.device.Side.{Side}
use Rattle.lk_locks.specs.Meaning.{table_meaning}
use Rattle.lk_agreement_laws.proofs.Histories.{heard_was_sent, cons_cases, contains_more}
use Rattle.lk_node_interface.specs.Envelopes.{EnvelopeValue, batch_of, datagram_of}
use Rattle.lk_node_interface.specs.declared.note.Note.{Note}
use Rattle.lk_node.specs.Histories.{Genesis, Datagram}
use Rattle.lk_node.specs.Leavings.{DisksFit}
use Rattle.lk_replica.specs.Posts.{CarriesAll}
use Rattle.lk_replica.specs.ReplicaValue.{ReplicaValue, device_of}
use Rattle.lk_address_book.specs.Addresses.{AddressBook}
use Rattle.lk_transport.specs.Posts.{SendState, Becomes}
use Rattle.lk_pacing.specs.Paces.{ticks_after, MayFollow}
use Rattle.lk_server.specs.WatchHandling.{HandlesWatches}
use Rattle.lk_server_replica.specs.Tables.{table_of}
use Rattle.lk_address_book.specs.declared.hosts.HostNews.{HostNews}
use Rattle.lk_node_process.specs.Turns.{ActsBeside, KnowsJoined, TakesHosts}
use Rattle.lk_transport.specs.declared.received_watch.ReceivedWatch.{ReceivedWatch}
use Rattle.lk_server_replica.specs.Showing.{IsShown}
use Rattle.lk_probe.specs.declared.reported.Reported.{Reported}
use Rattle.lk_transport.specs.declared.received_probe.ReceivedProbe.{ReceivedProbe}
use Rattle.lk_server.specs.Servers.{ServerValue, DeliversEnvelopes, Given, IsIdle, MayEndNudged, one_more, inputs}
use Rattle.lk_server.specs.Servers.{all_inputs}
use Rattle.lk_server.specs.Servers.{datagrams_in}
use Rattle.lk_server.specs.Servers.{IsPrefix, send_state_at}
use Rattle.lk_pacing.specs.declared.pace.Pace.{Pace}
use Rattle.lk_pacing.specs.declared.pace.Pace.TheVariants.{Datagrams, Clock}
use Rattle.lk_sim.specs.Events.{ReplacesSeat, Adds}
use Rattle.lk_sim.specs.Networks.{MayCome, Steps, Appears, IsStillDown, Stops, nothing}
use Rattle.lk_sim_nodes.specs.Rooms.{AreShort}
use Rattle.lk_sim_nodes.specs.SimNodes.{At, UpFits}
use Rattle.lk_sim.specs.Traces.{happened}
use Rattle.lk_sim.specs.Worlds.{WorldInvariant}
use Rattle.lk_sim_nodes.specs.declared.sim_node.RunState.TheVariants.{Up, Down}
use Rattle.lk_sim.proofs.Networks.{step_holds, at_set, at_set_here, at_push, nothing_holds, set_twice, went_down}
use Rattle.lk_cluster_theorems.specs.Clusters.{Node, Cluster, Network, ForgesNothing, ServerHolds, server_disks, Says}
use Rattle.lk_cluster_theorems.specs.Clusters.{Starts}
use Rattle.lk_cluster_theorems.specs.Clusters.{DoesTurn, Idles, EndsByTurn, Happens, HappenAll, IsReachable}
use Rattle.lk_cluster_theorems.proofs.Groups.{AllMay, group_leaves}
use Rattle.lk_cluster_theorems.proofs.Mapped.{device_disks}

-- ---- envelopes of a node to itself

pub in_map : {X Y : Type 0} (f : X → Y) (xs : List X) (x : X) → Contains xs x → Contains (map f xs) (f x)
in_map f [] x c = absurd (omega (arith, c.1))
in_map f (y ∷ xs) x c = elim (cons_cases y xs x c) [
  | inl here ↦ (0, omega arith, ap f here)
  | inr later ↦ contains_more (f y) (map f xs) (f x) (in_map f xs x later)
]

-- envelopes that were taken, and the others, stood there
in_front : (k : ℕ) (loopback : List EnvelopeValue) (l : EnvelopeValue) → Contains (take k loopback) l
    → Contains loopback l
in_front zero loopback l c = absurd (omega (arith, c.1))
in_front (suc k) [] l c = c
in_front (suc k) (x ∷ loopback) l c = elim (cons_cases x (take k loopback) l c) [
  | inl here ↦ (0, omega arith, here)
  | inr later ↦ contains_more x loopback l (in_front k loopback l later)
]

in_rest : (k : ℕ) (loopback : List EnvelopeValue) (l : EnvelopeValue) → Contains (drop k loopback) l
    → Contains loopback l
in_rest zero loopback l c = c
in_rest (suc k) [] l c = c
in_rest (suc k) (x ∷ loopback) l c = contains_more x loopback l (in_rest k loopback l c)

kept_one : (observable : Type 0) (node : ℕ) (book : AddressBook) (old new : SendState) (x : EnvelopeValue)
    (is_sent : Bool)
    → Becomes observable node book old x is_sent new → (l : EnvelopeValue) → Contains new.loopback l
    → Contains old.loopback l ⊎ (x ≡ l)
kept_one observable node book old new x true (inl keeps) l c =
    Contains-push_cases old.loopback x l (subst (λ (ls : List EnvelopeValue). Contains ls l) keeps.loopback c)
kept_one observable node book old new x true (inr sends) l c =
    inl (subst (λ (ls : List EnvelopeValue). Contains ls l) sends.loopback c)
kept_one observable node book old new x false loses l c = inl (subst (λ
    (ls : List EnvelopeValue). Contains ls l) loses.loopback c)

-- what is kept stood there or was given
kept_of : (observable : Type 0) (node : ℕ) (book : AddressBook) (old new : SendState) (envelopes : List EnvelopeValue)
    → CarriesAll (Becomes observable node book) old envelopes new → (l : EnvelopeValue) → Contains new.loopback l
    → Contains old.loopback l ⊎ Contains envelopes l
kept_of observable node book old new [] all l c = inl (subst (λ (t : SendState). Contains t.loopback l) all c)
kept_of observable node book old new (x ∷ envelopes) all l c = elim
    (kept_of observable node book all.1 new envelopes all.3 l c) [
      | inl before ↦ elim (kept_one observable node book old all.1 x all.0 all.2 l before)
          [ inl old_one ↦ inl old_one | inr here ↦ inr (0, omega arith, here) ]
      | inr later ↦ inr (contains_more x envelopes l later)
    ]

-- a server that goes on, all of whose envelopes to itself were given to be sent
pub record IsKept (sent : List Datagram) (n : ℕ) (q : ServerValue ReplicaValue) : Type 0 where
  pub alive : q.replica.failed ≡ false
  pub loopback : (l : EnvelopeValue) → Contains q.loopback l → Contains sent (datagram_of n l)

abbrev pub OwnOf : List Node → List Datagram → Type 0
OwnOf sim_nodes sent =
    (k : ℕ) (s : Node) → At sim_nodes k s → (q : ServerValue ReplicaValue) → s.run_state ≡ Up q → IsKept sent s.number q

own_later : (sent now : List Datagram) (n : ℕ) (q : ServerValue ReplicaValue)
    → ((d : Datagram) → Contains sent d → Contains now d) → IsKept sent n q → IsKept now n q
own_later sent now n q among k = record {
  alive = k.alive;
  loopback = λ l c. among (datagram_of n l)
      (k.loopback l c);
}

pub same_up : (p q : ServerValue ReplicaValue) → Up p ≡ Up q → p ≡ q
same_up p q e = cc e

own_set : (sim_nodes : List Node) (index : ℕ) (next : Node) (sent now : List Datagram) → OwnOf sim_nodes sent
    → ((d : Datagram) → Contains sent d → Contains now d)
    → ((q : ServerValue ReplicaValue) → next.run_state ≡ Up q → IsKept now next.number q)
    → OwnOf (set sim_nodes index next) now
own_set sim_nodes index next sent now old among mine k s at q up = elim (at_set sim_nodes index next k s at) [
  | inl here ↦
      subst (λ (z : Node). (p : ServerValue ReplicaValue) → z.run_state ≡ Up p → IsKept now z.number p) here.1 mine q up
  | inr other ↦ own_later sent now s.number q among (old k s other.1 q up)
]

-- a server that has taken a turn
after_turn : (observable : Type 0) (Says : ReplicaValue → List (Option (List ℕ)) → List EnvelopeValue → ReplicaValue
    → Type 0)
    (given : List (Option (List ℕ))) (count : ℕ) (sent : List Datagram) (n : ℕ)
    (server after : ServerValue ReplicaValue)
    → IsKept sent n server → (h : DeliversEnvelopes Says observable given (drop count server.loopback) server after)
    → after.replica.failed ≡ false → IsKept (sent ++ batch_of n h.envelopes) n after
after_turn observable Says given count sent n server after kept h alive = record {
  alive = alive;
  loopback = λ l c. elim (kept_of observable after.node after.addresses (send_state_at
      (drop count server.loopback) server)
      (send_state_at after.loopback after) h.envelopes h.carried l c) [
        | inl old ↦
            Contains-append_left sent (batch_of n h.envelopes) (datagram_of n l)
            (kept.loopback l (in_rest count server.loopback l old))
        | inr new ↦
            Contains-append_right sent (batch_of n h.envelopes) (datagram_of n l)
            (in_map (datagram_of n) h.envelopes l new)
      ];
}

-- ---- what comes in a turn

module _ (genesis : Genesis) (sent : List Datagram) where
  append_may : (first rest : List (Option (List ℕ))) → AllMay genesis sent first → AllMay genesis sent rest
      → AllMay genesis sent (first ++ rest)
  append_may [] rest may more = more
  append_may (o ∷ first) rest may more = (may.0, append_may first rest may.1 more)

  inputs_may : (pace : Pace) (number : ℕ) (bytes : List ℕ) → MayCome genesis sent (Some bytes)
      → AllMay genesis sent (inputs pace number bytes)
  inputs_may pace number bytes may =
      elim (cases_Bool (ticks_after pace number)) [ inl e ↦ rw e (may, (tt, tt)) | inr e ↦ rw e (may, tt) ]

  -- these may
  abbrev AreFree : List (List ℕ) → Type 0
  AreFree datagrams = AllByRecursion (λ (bytes : List ℕ). MayCome genesis sent (Some bytes)) datagrams

  all_inputs_may : (pace : Pace) (received : ℕ) (datagrams : List (List ℕ)) → AreFree datagrams
      → AllMay genesis sent (all_inputs pace received datagrams)
  all_inputs_may pace received [] may = tt
  all_inputs_may pace received (bytes ∷ more) may =
      append_may (inputs pace (one_more received) bytes) (all_inputs pace (one_more received) more)
      (inputs_may pace (one_more received) bytes may.0) (all_inputs_may pace (one_more received) more may.1)

  -- a tick may always come
  ticks_may : (pace : Pace) (ticks : List (Option (List ℕ))) → MayFollow pace ticks → AllMay genesis sent ticks
  ticks_may Datagrams ticks none = subst (λ (l : List (Option (List ℕ))). AllMay genesis sent l) (sym none) tt
  ticks_may Clock ticks (inl none) = subst (λ (l : List (Option (List ℕ))). AllMay genesis sent l) (sym none) tt
  ticks_may Clock ticks (inr one) = subst (λ (l : List (Option (List ℕ))). AllMay genesis sent l) (sym one) (tt, tt)

  turn_may : (pace : Pace) (received : ℕ) (datagrams : List (List ℕ)) (given : List (Option (List ℕ)))
      → Given pace received datagrams given → AreFree datagrams → AllMay genesis sent given
  turn_may pace received [] given is may =
      subst (λ (l : List (Option (List ℕ))). AllMay genesis sent l) (sym is) (tt, tt)
  turn_may pace received (bytes ∷ more) given is may =
      subst (λ (l : List (Option (List ℕ))). AllMay genesis sent l) (sym is.2)
      (append_may (all_inputs pace received (bytes ∷ more)) is.0 (all_inputs_may pace received (bytes ∷ more) may)
      (ticks_may pace is.0 is.1))

  came_may : (came : List (SocketAddr × List ℕ))
      → AllByRecursion (λ (c : SocketAddr × List ℕ). MayCome genesis sent (Some c.1)) came
      → AreFree (map (λ (c : SocketAddr × List ℕ). c.1) came)
  came_may [] may = tt
  came_may (c ∷ came) may = (may.0, came_may came may.1)

  datagrams_may : (loopback : List EnvelopeValue) (came : List (SocketAddr × List ℕ))
      → ((l : EnvelopeValue) → Contains loopback l → MayCome genesis sent (Some l.bytes))
      → AllByRecursion (λ (c : SocketAddr × List ℕ). MayCome genesis sent (Some c.1)) came
      → AreFree (datagrams_in loopback came)
  datagrams_may [] came mine may = came_may came may
  datagrams_may (l ∷ loopback) came mine may = (
    mine l (0, omega arith, refl),
    datagrams_may loopback came (λ x c. mine x
        (contains_more l loopback x c)) may,
  )

  front_may : (given rest : List (Option (List ℕ))) → AllMay genesis sent (given ++ rest) → AllMay genesis sent given
  front_may [] rest may = tt
  front_may (o ∷ given) rest may = (may.0, front_may given rest may.1)

  pub given_may : (pace : Pace) (count received : ℕ) (loopback : List EnvelopeValue)
      (came : List (SocketAddr × List ℕ)) (given : List (Option (List ℕ)))
      → Given pace received (datagrams_in (take count loopback) came) given
      → ((l : EnvelopeValue) → Contains loopback l → MayCome genesis sent (Some l.bytes))
      → AllByRecursion (λ (c : SocketAddr × List ℕ). MayCome genesis sent (Some c.1)) came → AllMay genesis sent given
  given_may pace count received loopback came given is mine may =
      turn_may pace received (datagrams_in (take count loopback) came) given is
      (datagrams_may (take count loopback) came (λ l c. mine l (in_front count loopback l c)) may)

  -- and so may a nudge
  pub nudged_may : (timed given : List (Option (List ℕ))) → MayEndNudged timed given → AllMay genesis sent timed
      → AllMay genesis sent given
  nudged_may timed given (inl same) may = subst (λ (g : List (Option (List ℕ))). AllMay genesis sent g) (sym same) may
  nudged_may timed given (inr nudged) may = subst (λ (g : List (Option (List ℕ))). AllMay genesis sent g) (sym nudged)
      (append_may timed (None ∷ []) may (tt, tt))

  pub ended_may : (given whole : List (Option (List ℕ))) → IsPrefix given whole → AllMay genesis sent whole
      → AllMay genesis sent given
  ended_may given whole front may =
      front_may given front.0 (subst (λ (g : List (Option (List ℕ))). AllMay genesis sent g) front.1 may)

-- ---- what holds of a cluster

pub record IsSound (c : Cluster) : Type 0 where
  pub holds : WorldInvariant ServerHolds server_disks table_meaning c.genesis c.sim_nodes c.sent c.trace
  pub loopback : OwnOf c.sim_nodes c.sent

-- nothing has happened yet
pub begun : (genesis : Genesis) → IsSound (nothing genesis)
begun genesis = record {
  holds = nothing_holds ServerHolds server_disks table_meaning genesis;
  loopback = λ k s at q up. absurd (omega (arith, at.0));
}

-- what the network brings is not forged, where that holds
abbrev pub Unforged : Network → Type 0
Unforged May = (c : Cluster) → IsSound c → (server : ServerValue ReplicaValue) (came : List (SocketAddr × List ℕ))
    → May c.genesis c.sent server came → ForgesNothing c.genesis c.sent server came

module _ (old : Cluster) (w : IsSound old) where
  -- an envelope of the node to itself may come
  pub own_may : (n : ℕ) (server : ServerValue ReplicaValue) → IsKept old.sent n server → (l : EnvelopeValue)
      → Contains server.loopback l → MayCome old.genesis old.sent (Some l.bytes)
  own_may n server k l c =
      λ j x said. heard_was_sent old.genesis old.sent w.holds.world.sound (datagram_of n l) (k.loopback l c) j x said

  -- a server with another one's replica, in its place
  pub with_replica : (index : ℕ) (node : Node) → At old.sim_nodes index node
      → (server other : ServerValue ReplicaValue) → node.run_state ≡ Up server
      → WorldInvariant ServerHolds server_disks table_meaning old.genesis
      (set old.sim_nodes index (record {
        number = node.number;
        run_state =
            Up (record other { replica = server.replica });
      }))
      old.sent old.trace
  with_replica index node at server other was =
      let h = happened old.genesis old.sent old.trace in
      let v = w.holds.states node.number in
      let q : ServerValue ReplicaValue = record other { replica = server.replica } in
      let f = (w.holds.as_sim_nodes index node at).up server was in
      let fits : UpFits ServerHolds server_disks table_meaning h v node.number q =
      record { holding = f.holding; paxos = f.paxos; shown = f.shown; fits = f.fits; left = f.left; room = f.room } in
      went_down ServerHolds server_disks table_meaning old.genesis old.sim_nodes old.sent old.trace w.holds index node
      (record { number = node.number; run_state = Up q }) at refl (record {
        up = λ p up. subst (λ (z : ServerValue ReplicaValue). UpFits ServerHolds server_disks table_meaning h v
            node.number z) (same_up q p up) fits;
        down = λ d is. absurd (cc is);
        room = λ d is. absurd (cc is);
      })

-- a server as another one, but for what it knows of other addresses, who waits for a name, what has come to its socket
-- and was sent by it, and which ticks it has withheld and counts as silence
abbrev at_rest : ServerValue ReplicaValue → ServerValue ReplicaValue → ServerValue ReplicaValue
at_rest server after = record after {
  addresses = server.addresses;
  incoming = server.incoming;
  sent = server.sent;
  socket_failures = server.socket_failures;
  withheld = server.withheld;
  quiet = server.quiet;
  waiting = server.waiting;
}

-- what handling watches may change
pub watches_change : {observable : Type 0} (watched : Option ReceivedWatch) (old new : ServerValue ReplicaValue)
    → HandlesWatches table_of IsShown observable watched old new
    → new ≡ record old {
      waiting = new.waiting;
      sent = new.sent;
      socket_failures = new.socket_failures;
      incoming = new.incoming;
    }
watches_change watched old new (inl quiet) =
    quiet.same ∙ ap (λ (s : ServerValue ReplicaValue). record old {
      waiting = s.waiting;
      sent = s.sent;
      socket_failures = s.socket_failures;
      incoming = s.incoming;
    }) (sym quiet.same)
watches_change watched old new (inr serves) = serves.same

-- the last steps change the addresses only
at_last : (news : HostNews) (told noted new : ServerValue ReplicaValue) → KnowsJoined told noted
    → TakesHosts news noted new → new ≡ record told { addresses = new.addresses }
at_last news told noted new joined hosts =
    ap (λ (s : ServerValue ReplicaValue). record s { addresses = new.addresses }) hosts
    ∙ ap (λ (s : ServerValue ReplicaValue). record s { addresses = new.addresses }) joined

-- what a step changed, and after it the addresses
after_told : (old told new : ServerValue ReplicaValue) → told ≡ record old {
  addresses = told.addresses;
  waiting = told.waiting;
  sent = told.sent;
  socket_failures = told.socket_failures;
  incoming = told.incoming;
}
    → new ≡ record told { addresses = new.addresses }
    → new ≡ record old {
      addresses = new.addresses;
      waiting = new.waiting;
      sent = new.sent;
      socket_failures = new.socket_failures;
      incoming = new.incoming;
    }
after_told old told new first last =
    ap (λ (s : ServerValue ReplicaValue). record s {
      addresses = new.addresses;
      waiting = new.waiting;
      sent = new.sent;
      socket_failures = new.socket_failures;
      incoming = new.incoming;
    }) (last ∙ ap (λ (s : ServerValue ReplicaValue). record s { addresses = new.addresses }) first)

-- what is done beside the protocol may change this
pub beside_changes : {observable : Type 0} (news : HostNews) (asked : Option ReceivedProbe)
    (reported : Option Reported) (watched : Option ReceivedWatch) (old new : ServerValue ReplicaValue)
    → (acts : ActsBeside observable news asked reported watched old new)
    → new ≡ record old {
      addresses = new.addresses;
      waiting = new.waiting;
      sent = new.sent;
      socket_failures = new.socket_failures;
      incoming = new.incoming;
    }
beside_changes news asked reported watched old new acts =
    let book = acts.told.addresses in
    let told : acts.told ≡ record old {
      addresses = book;
      waiting = acts.told.waiting;
      sent = acts.told.sent;
      socket_failures = acts.told.socket_failures;
      incoming = acts.told.incoming;
    } =
    ap (λ (s : ServerValue ReplicaValue). record s { addresses = book })
    (watches_change watched acts.probed acts.told acts.watches)
    ∙ ap (λ (s : ServerValue ReplicaValue). record s {
      addresses = book;
      waiting = acts.told.waiting;
      sent = acts.told.sent;
      socket_failures = acts.told.socket_failures;
      incoming = acts.told.incoming;
    }) acts.probes.same in
    let last : new ≡ record acts.told { addresses = new.addresses } =
    at_last news acts.told acts.noted new acts.joined acts.hosts in
    after_told old acts.told new told last

-- by an idle turn and beside the protocol nothing else changes
at_rest_by : {observable : Type 0} (server after : ServerValue ReplicaValue)
    → ((frames : List (SocketAddr × List ℕ)) × IsIdle observable frames server after)
    ⊎ ((news : HostNews) × (asked : Option ReceivedProbe) × (reported : Option Reported)
    × (watched : Option ReceivedWatch) × ActsBeside observable news asked reported watched server after)
    → at_rest server after ≡ server
at_rest_by server after (inl i) =
    ap (λ (s : ServerValue ReplicaValue). record s {
      addresses = server.addresses;
      sent = server.sent;
      socket_failures = server.socket_failures;
      waiting = server.waiting;
    }) i.1.same
at_rest_by server after (inr a) =
    ap (λ (s : ServerValue ReplicaValue). at_rest server s) (beside_changes a.0 a.1 a.2 a.3 server after a.4)

module _ (May : Network) (Metered observable : Type 0) (unforged : Unforged May) where
  module _ (old new : Cluster) (w : IsSound old) where
    by_step : Steps ServerHolds server_disks table_meaning old new
        → WorldInvariant ServerHolds server_disks table_meaning new.genesis new.sim_nodes new.sent new.trace
    by_step s = step_holds ServerHolds server_disks table_meaning old new w.holds s

    among_more : (more : List Datagram) → new.sent ≡ old.sent ++ more → (d : Datagram)
        → Contains old.sent d → Contains new.sent d
    among_more more e d c = subst (λ (l : List Datagram). Contains l d) (sym e) (Contains-append_left old.sent more d c)

    own_moved : (s t : Node) (turns : ReplacesSeat old.sim_nodes new.sim_nodes s t) (more : List Datagram)
        → new.sent ≡ old.sent ++ more → ((q : ServerValue ReplicaValue) → t.run_state ≡ Up q
        → IsKept new.sent t.number q)
        → OwnOf new.sim_nodes new.sent
    own_moved s t turns more e mine =
        subst (λ (l : List Node). OwnOf l new.sent) (sym turns.sim_nodes)
        (own_set old.sim_nodes turns.index t old.sent new.sent w.loopback (among_more more e) mine)

    no_up : (t : Node) (d : Memory) → t.run_state ≡ Down d → (q : ServerValue ReplicaValue) → t.run_state ≡ Up q
        → IsKept new.sent t.number q
    no_up t d down q up = absurd (cc (down, up))

    appears : Appears old new → IsSound new
    appears a = record {
      holds = by_step (inl a);
      loopback = subst (λ (l : List Node). OwnOf l new.sent) (sym a.sim_nodes)
          (λ k s at q up. elim (at_push old.sim_nodes a.sim_node k s at) [
            | inl before ↦ own_later old.sent new.sent s.number q (among_more [] a.adds.sent)
                (w.loopback k s before q up)
            | inr here ↦ absurd (let same : Up q ≡ Down a.device = sym up
                ∙ ap (λ (z : Node). z.run_state) (sym here.1) ∙ a.down in cc same)
          ]);
    }

    starts : Starts old new → IsSound new
    starts a =
        let r = a.restarts in
        record {
          holds = by_step (inr (inl r));
          loopback = own_moved r.sim_node r.next r.replaces [] r.adds.sent (λ q up.
              subst (λ (z : ServerValue ReplicaValue). IsKept new.sent r.next.number z)
              (same_up r.replica q (sym r.up ∙ up))
              (record {
                alive = a.alive;
                loopback = λ l c. absurd (omega (
                  arith,
                  (subst (λ
                      (ls : List EnvelopeValue). Contains ls l) a.loopback c).1,
                ));
              }));
        }

    rests : IsStillDown table_meaning old new → IsSound new
    rests a = record {
      holds = by_step (inr (inr (inl a)));
      loopback = own_moved a.sim_node a.next a.replaces [] a.adds.sent (no_up a.next a.left a.still);
    }

    stops : Stops server_disks old new → IsSound new
    stops a = record {
      holds = by_step (inr (inr (inr (inr (inr a)))));
      loopback = own_moved a.sim_node a.next a.replaces [] a.adds.sent (no_up a.next a.left a.down);
    }

    moved : (sim_nodes : List Node) (notes : List Note) (batch : List Datagram) → new.sim_nodes ≡ sim_nodes
        → Adds old new notes batch
        → WorldInvariant ServerHolds server_disks table_meaning old.genesis sim_nodes (old.sent ++ batch) (old.trace
        ++ notes)
        → WorldInvariant ServerHolds server_disks table_meaning new.genesis new.sim_nodes new.sent new.trace
    moved sim_nodes notes batch same a h =
        subst (λ g. WorldInvariant ServerHolds server_disks table_meaning g new.sim_nodes new.sent new.trace)
        (sym a.genesis)
        (subst (λ z. WorldInvariant ServerHolds server_disks table_meaning old.genesis z new.sent new.trace) (sym same)
        (subst₂ (λ x y. WorldInvariant ServerHolds server_disks table_meaning old.genesis sim_nodes x y)
        (sym a.sent) (sym a.trace) h))

    -- what a server takes in a turn of what waits and comes
    pub turn_takes : (n count : ℕ) (server : ServerValue ReplicaValue) (came : List (SocketAddr × List ℕ))
        (given : List (Option (List ℕ)))
        → Given server.pace server.received (datagrams_in (take count server.loopback) came) given
        → IsKept old.sent n server → May old.genesis old.sent server came → AllMay old.genesis old.sent given
    turn_takes n count server came given is kept may =
        given_may old.genesis old.sent server.pace count server.received server.loopback came given is
        (own_may old w n server kept) (unforged old w server came may)

    takes_turn : DoesTurn May Metered observable old new → IsSound new
    takes_turn a =
        let n : ℕ = a.node.number in
        let kept = w.loopback a.replaces.index a.node a.replaces.at a.server a.was in
        let envelopes : List EnvelopeValue = a.turn.hands_on.envelopes in
        let left = group_leaves old.genesis n old.sim_nodes a.replaces.index a.node a.replaces.at a.after Metered
        a.turn.given
        a.server.replica envelopes a.after.replica a.turn.hands_on.says a.trace old.sent old.trace
        (nudged_may old.genesis old.sent a.turn.timed a.turn.given a.turn.nudged
        (turn_takes n 64 a.server a.came a.turn.timed a.turn.may kept a.may))
        (with_replica old w a.replaces.index a.node a.replaces.at a.server a.after a.was) a.traces in
        record {
          holds = moved (set old.sim_nodes a.replaces.index a.next) a.trace (batch_of n envelopes)
              a.replaces.sim_nodes a.adds
              (subst (λ (z : Node). WorldInvariant ServerHolds server_disks table_meaning old.genesis
              (set old.sim_nodes a.replaces.index z) (old.sent ++ batch_of n envelopes) (old.trace ++ a.trace))
              (λ i. record { number = sym a.replaces.number i; run_state = sym a.up i }) (left.up a.alive));
          loopback = own_moved a.node a.next a.replaces (batch_of n envelopes) a.adds.sent (λ q up.
              subst (λ (z : ServerValue ReplicaValue). IsKept new.sent a.next.number z)
              (same_up a.after q (sym a.up ∙ up))
              (subst₂ (λ (l : List Datagram) (k : ℕ). IsKept l k a.after) (sym a.adds.sent) (sym a.replaces.number)
              (after_turn observable (Says Metered) a.turn.given 64 old.sent n a.server a.after kept
              a.turn.hands_on a.alive)));
        }

    -- an idle turn, or what is done beside the protocol
    idles : Idles observable old new → IsSound new
    idles a =
        let replica : a.after.replica ≡ a.server.replica =
        ap (λ (s : ServerValue ReplicaValue). s.replica) (at_rest_by a.server a.after a.idle) in
        let waits : a.after.loopback ≡ a.server.loopback =
        ap (λ (s : ServerValue ReplicaValue). s.loopback) (at_rest_by a.server a.after a.idle) in
        let mine : record a.after { replica = a.server.replica } ≡ a.after =
        λ i. record a.after { replica = sym replica i } in
        let kept = w.loopback a.replaces.index a.node a.replaces.at a.server a.was in
        let still : IsKept (old.sent ++ []) a.node.number a.after = record {
          alive = ap (λ (r : ReplicaValue). r.failed) replica ∙ kept.alive;
          loopback = λ l c. Contains-append_left old.sent [] (datagram_of a.node.number l)
              (kept.loopback l (subst (λ (ls : List EnvelopeValue). Contains ls l) waits c));
        } in
        record {
          holds = moved (set old.sim_nodes a.replaces.index a.next) [] [] a.replaces.sim_nodes a.adds
              (subst₂ (λ (x : List Datagram) (y : List Note). WorldInvariant ServerHolds server_disks table_meaning
              old.genesis
              (set old.sim_nodes a.replaces.index a.next) x y) (sym (append-nil old.sent)) (sym (append-nil old.trace))
              (subst (λ (z : Node). WorldInvariant ServerHolds server_disks table_meaning old.genesis
              (set old.sim_nodes a.replaces.index z) old.sent old.trace)
              (λ i. record { number = sym a.replaces.number i; run_state = (ap Up mine ∙ sym a.up) i })
              (with_replica old w a.replaces.index a.node a.replaces.at a.server a.after a.was)));
          loopback = own_moved a.node a.next a.replaces [] a.adds.sent (λ q up.
              subst (λ (z : ServerValue ReplicaValue). IsKept new.sent a.next.number z)
              (same_up a.after q (sym a.up ∙ up))
              (subst₂ (λ (l : List Datagram) (k : ℕ). IsKept l k a.after) (sym a.adds.sent)
              (sym a.replaces.number) still));
        }

    -- other devices with the same disks
    other_device : (after : ServerValue ReplicaValue) (left : Memory)
        → ((s : Side) → disk_of left s ≡ server_disks after s) → disk_of (device_of after.replica.store) ≡ disk_of left
    other_device after left same = λ i side. (sym (device_disks after.replica.store side) ∙ sym (same side)) i

    ends_by_turn : EndsByTurn May Metered observable old new → IsSound new
    ends_by_turn a =
        let n : ℕ = a.node.number in
        let kept = w.loopback a.replaces.index a.node a.replaces.at a.server a.was in
        let batch : List Datagram = batch_of n a.turn.hands_on.envelopes in
        let timed = ended_may old.genesis old.sent a.turn.timed a.turn.first.whole a.turn.first.front
        (turn_takes n a.turn.count a.server a.came a.turn.first.whole a.turn.first.may kept a.may) in
        let may = nudged_may old.genesis old.sent a.turn.timed a.turn.given a.turn.nudged timed in
        let device : Memory = device_of a.after.replica.store in
        let sim_node : Node = record { number = n; run_state = Down device } in
        let next : Node = record { number = n; run_state = Down a.left } in
        let left = group_leaves old.genesis n old.sim_nodes a.replaces.index a.node a.replaces.at a.after Metered
        a.turn.given
        a.server.replica a.turn.hands_on.envelopes a.after.replica a.turn.hands_on.says a.trace old.sent old.trace may
        (with_replica old w a.replaces.index a.node a.replaces.at a.server a.after a.was) a.traces in
        let first : Cluster = record {
          genesis = old.genesis;
          sim_nodes = set old.sim_nodes a.replaces.index sim_node;
          sent = old.sent ++ batch;
          trace = old.trace ++ a.trace;
          ended = None;
        } in
        let last : Cluster = record {
          genesis = old.genesis;
          sim_nodes = set old.sim_nodes a.replaces.index next;
          sent = old.sent ++ batch;
          trace = old.trace ++ a.trace;
          ended = None;
        } in
        let path = other_device a.after a.left a.same in
        let rests : IsStillDown table_meaning first last = record {
          sim_node = sim_node;
          next = next;
          replaces = record {
            index = a.replaces.index;
            at = at_set_here old.sim_nodes a.replaces.index sim_node a.replaces.at.0;
            number = refl;
            sim_nodes = sym (set_twice old.sim_nodes a.replaces.index sim_node next);
          };
          device = device;
          down = refl;
          left = a.left;
          still = refl;
          rests = record {
            ends = λ h e lawful f. subst (λ d. DisksFit table_meaning h n d) path f;
            short = λ short. subst (λ d. AreShort d) path short;
          };
          adds = record {
            genesis = refl;
            sent = sym (append-nil (old.sent ++ batch));
            trace = sym (append-nil (old.trace ++ a.trace));
          };
        } in
        let then_holds = step_holds ServerHolds server_disks table_meaning first last (left.down a.ended)
        (inr (inr (inl rests))) in
        record {
          holds = moved (set old.sim_nodes a.replaces.index a.next) a.trace batch a.replaces.sim_nodes a.adds
              (subst (λ (z : Node). WorldInvariant ServerHolds server_disks table_meaning old.genesis
              (set old.sim_nodes a.replaces.index z) (old.sent ++ batch) (old.trace ++ a.trace))
              (λ i. record { number = sym a.replaces.number i; run_state = sym a.down i }) then_holds);
          loopback = own_moved a.node a.next a.replaces batch a.adds.sent (no_up a.next a.left a.down);
        }

    pub happens : Happens May Metered observable old new → IsSound new
    happens (inl a) = appears a
    happens (inr (inl a)) = starts a
    happens (inr (inr (inl a))) = rests a
    happens (inr (inr (inr (inl a)))) = takes_turn a
    happens (inr (inr (inr (inr (inl a))))) = idles a
    happens (inr (inr (inr (inr (inr (inl a)))))) = ends_by_turn a
    happens (inr (inr (inr (inr (inr (inr a)))))) = stops a

  all_happen : (first last : Cluster) (clusters : List Cluster) → IsSound first
      → HappenAll May Metered observable first clusters last → IsSound last
  all_happen first last [] w all = subst IsSound (sym all) w
  all_happen first last (next ∷ clusters) w all = all_happen next last clusters (happens first next w all.0) all.1

  -- whatever has happened since it began
  pub reachable_sound : (genesis : Genesis) (c : Cluster) → IsReachable May Metered observable genesis c → IsSound c
  reachable_sound genesis c all = all_happen (nothing genesis) c all.0 (begun genesis) all.1

-- what is not forged is not
pub forges_nothing : Unforged ForgesNothing
forges_nothing c w server came may = may
