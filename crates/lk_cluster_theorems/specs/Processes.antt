-- What the processes of nodes do, move by move: each starts its node, does its turns, and ends or is killed. The
-- processes of several nodes run at the same time: here their moves follow one another, in any order.
use Rattle.std.specs.Prelude.{◌≡◌, ◌≢◌, ◌⊎◌, ◌<◌, ℕ, Option, None, List, [], ◌∷◌, ◌++◌, length, set}
use Rattle.std.proofs.Common.{inl, inr}
use Rattle.std.specs.List.{AllByRecursion}
use Rattle.std.specs.declared.net.socket_addr.SocketAddr.{SocketAddr}
use Rattle.lk_types.specs.declared.genesis.Genesis.{Genesis}
use Rattle.lk_disk.specs.Disk.{Disk, after_stop}
use Rattle.lk_memory_disk.specs.Memory.{Memory, disk_of}
use Rattle.lk_disk.specs.declared.device.Side.{Side}
use Rattle.lk_locks.specs.Meaning.{table_meaning}
use Rattle.lk_locks.specs.Packed.{IsTableText}
use Rattle.lk_node_interface.specs.Envelopes.{EnvelopeValue, batch_of}
use Rattle.lk_node_interface.specs.declared.note.Note.{Note}
use Rattle.lk_node.specs.Histories.{Datagram}
use Rattle.lk_node.specs.Leavings.{header_of}
use Rattle.lk_replica.specs.ReplicaValue.{ReplicaValue}
use Rattle.lk_server.specs.Servers.{ServerValue, Turn, LastTurn, IsIdle}
use Rattle.lk_address_book.specs.Addresses.{filter_of}
use Rattle.lk_address_book.specs.Filters.{all_filtered}
use Rattle.lk_program_fault.specs.declared.fault.ProgramFault.{ProgramFault}
use Rattle.lk_node_process.specs.Revivals.{IsServerStarted, IsRefusedWith}
use Rattle.lk_node_process.specs.Turns.{DoesTurnWith, HasFollowedNoStranger, HasFollowedStranger, TellsFailure}
use Rattle.lk_node_process.specs.Turns.{envelopes_in}
use Rattle.lk_sim_nodes.specs.SimNodes.{At, HasNo}
use Rattle.lk_sim_nodes.specs.declared.sim_node.RunState.{RunState}
use Rattle.lk_sim_nodes.specs.declared.sim_node.RunState.TheVariants.{Up, Down}
use Rattle.lk_cluster_theorems.specs.Clusters.{Node, Cluster, Network, Says, TracesGroup, steps_of, server_disks}
use Rattle.lk_cluster_theorems.specs.Clusters.{disks_in, HappenAll, IsReachable}
use Rattle.lk_cluster_theorems.specs.Continuing.{node_of}

-- what the replica of a device says if that is honest
abbrev pub SaysIfHonest : Type 0 → Type 0 → ReplicaValue → List (Option (List ℕ)) → List EnvelopeValue → ReplicaValue
    → Type 0
SaysIfHonest Metered Honest old given envelopes new = Honest → Says Metered old given envelopes new

-- `Metered` says that the devices count their calls, `observable` that the sockets reveal what they send, and `Honest`
-- that the devices are honest
module _ (Metered observable Honest : Type 0) (genesis : Genesis) where
  -- ---- the moves of the node of this number in a cluster of this genesis, from one state to another

  module _ (n : ℕ) (old new : RunState (ServerValue ReplicaValue)) where
    -- it was down, and has been started from what its disks had
    pub record StartsNode : Type 0 where
      pub device : Memory
      pub was : old ≡ Down device
      pub disks : Side → Disk
      pub same : (s : Side) → disk_of device s ≡ disks s
      pub server : ServerValue ReplicaValue
      pub starts_as : IsServerStarted table_meaning Honest disks (header_of genesis n) server
      pub up : new ≡ Up server

    -- it was down, and its start was refused
    pub record StartIsRefused : Type 0 where
      pub device : Memory
      pub was : old ≡ Down device
      pub disks : Side → Disk
      pub same : (s : Side) → disk_of device s ≡ disks s
      pub told : ProgramFault
      pub rests : Side → Disk
      pub refused : IsRefusedWith table_meaning IsTableText Honest disks (header_of genesis n) told rests
      pub left : Memory
      pub leaves : (s : Side) → disk_of left s ≡ rests s
      pub down : new ≡ Down left

    -- it has done a turn, and what is done beside the protocol after it; `After` holds of the server then
    pub record TurnsNode (After : ServerValue ReplicaValue → Type 0) : Type 0 where
      pub server : ServerValue ReplicaValue
      pub was : old ≡ Up server
      pub after : ServerValue ReplicaValue
      pub turn : DoesTurnWith (SaysIfHonest Metered Honest) observable None None None After server after
      pub up : new ≡ Up after

    -- it has begun a turn that ended its replica. `came` is what was taken of these frames. A process that is killed in
    -- a turn moves so, and then stops (`IsInTurn`): as if the call of its device that it did not live to make had
    -- failed. If it had made the last such call of the turn, it has done the turn, and then stops: envelopes that it
    -- did not live to send count as sent, and are lost
    pub record EndsNode : Type 0 where
      pub server : ServerValue ReplicaValue
      pub was : old ≡ Up server
      pub after : ServerValue ReplicaValue
      pub frames : List (SocketAddr × List ℕ)
      pub came : List (SocketAddr × List ℕ)
      pub opened : came ≡ all_filtered (filter_of server.addresses) frames
      pub turn : LastTurn (SaysIfHonest Metered Honest) observable came server after
      pub failure : TellsFailure after
      pub left : Memory
      pub leaves : (s : Side) → disk_of left s ≡ server_disks after s
      pub down : new ≡ Down left

    -- it has stopped, up or down: its process has ended between turns, or its machine has stopped
    pub record StopsNode : Type 0 where
      pub left : Memory
      pub down : new ≡ Down left
      pub kept : (s : Side) → (k : ℕ) × (disk_of left s ≡ after_stop k (disks_in old s))

    abbrev pub IsMove : Type 0
    IsMove =
        StartsNode ⊎ StartIsRefused ⊎ TurnsNode HasFollowedNoStranger ⊎ TurnsNode HasFollowedStranger ⊎ EndsNode
        ⊎ StopsNode

  -- a move of the node at this place of the cluster
  pub record Move : Type 0 where
    pub index : ℕ
    pub number : ℕ
    pub before : RunState (ServerValue ReplicaValue)
    pub after : RunState (ServerValue ReplicaValue)
    pub does : IsMove number before after

  module _ {n : ℕ} {old new : RunState (ServerValue ReplicaValue)} where
    -- the envelopes that it gives to be sent
    abbrev pub envelopes_by : IsMove n old new → List EnvelopeValue
    envelopes_by (inl starts) = []
    envelopes_by (inr (inl refused)) = []
    envelopes_by (inr (inr (inl turns))) = envelopes_in (SaysIfHonest Metered Honest) observable turns.turn.turn
    envelopes_by (inr (inr (inr (inl turns)))) = envelopes_in (SaysIfHonest Metered Honest) observable turns.turn.turn
    envelopes_by (inr (inr (inr (inr (inl ends))))) = ends.turn.hands_on.envelopes
    envelopes_by (inr (inr (inr (inr (inr stops))))) = []

    -- the network may bring what arrives in it, given what was sent before
    abbrev pub MayArrive : Network → List Datagram → IsMove n old new → Type 0
    MayArrive May sent (inl starts) = Unit {0}
    MayArrive May sent (inr (inl refused)) = Unit {0}
    MayArrive May sent (inr (inr (inl turns))) = May genesis sent turns.server turns.turn.came
    MayArrive May sent (inr (inr (inr (inl turns)))) = May genesis sent turns.server turns.turn.came
    MayArrive May sent (inr (inr (inr (inr (inl ends))))) = May genesis sent ends.server ends.came
    MayArrive May sent (inr (inr (inr (inr (inr stops))))) = Unit {0}

  module _ (honest : Honest) where
    -- what a turn adds to the trace: of a group what its steps say (`TracesGroup`), of an idle turn nothing
    abbrev pub TracesTurn : ℕ → {came frames : List (SocketAddr × List ℕ)} {old new : ServerValue ReplicaValue}
        → Turn (SaysIfHonest Metered Honest) observable came old new ⊎ IsIdle observable frames old new → List Note
        → Type 0
    TracesTurn n (inl turn) notes =
        TracesGroup genesis.cluster n turn.given (steps_of Metered (turn.hands_on.says honest).comes) notes
    TracesTurn n (inr idle) notes = notes ≡ []

    -- what a move adds to it
    abbrev pub Traces : {n : ℕ} {old new : RunState (ServerValue ReplicaValue)} → IsMove n old new → List Note → Type 0
    Traces {n = n} (inl starts) notes = notes ≡ (starts.starts_as.comes_up honest).notes
    Traces {n = n} (inr (inl refused)) notes = notes ≡ []
    Traces {n = n} (inr (inr (inl turns))) notes = TracesTurn n turns.turn.turn notes
    Traces {n = n} (inr (inr (inr (inl turns)))) notes = TracesTurn n turns.turn.turn notes
    Traces {n = n} (inr (inr (inr (inr (inl ends))))) notes =
        TracesGroup genesis.cluster n ends.turn.given (steps_of Metered (ends.turn.hands_on.says honest).comes) notes
    Traces {n = n} (inr (inr (inr (inr (inr stops))))) notes = notes ≡ []

    -- what these moves add, one after another
    abbrev pub TraceAll : List Move → List Note → Type 0
    TraceAll [] notes = notes ≡ []
    TraceAll (m ∷ moves) notes =
        (here : List Note) × (rest : List Note) × (notes ≡ here ++ rest) × Traces m.does here × TraceAll moves rest

  -- ---- moves of several nodes, one after another

  -- each begins in the state that the node at its place is in then
  abbrev pub Fit : List Node → List Move → Type 0
  Fit sim_nodes [] = Unit {0}
  Fit sim_nodes (m ∷ moves) =
      At sim_nodes m.index (node_of m.number m.before) × Fit (set sim_nodes m.index (node_of m.number m.after)) moves

  -- the nodes after them
  abbrev pub sim_nodes_after : List Node → List Move → List Node
  sim_nodes_after sim_nodes [] = sim_nodes
  sim_nodes_after sim_nodes (m ∷ moves) = sim_nodes_after (set sim_nodes m.index (node_of m.number m.after)) moves

  -- the datagrams that they give to be sent, in order
  abbrev pub sent_by : List Move → List Datagram
  sent_by [] = []
  sent_by (m ∷ moves) = batch_of m.number (envelopes_by m.does) ++ sent_by moves

  -- the envelopes of one node that makes all of them
  abbrev pub all_envelopes : List Move → List EnvelopeValue
  all_envelopes [] = []
  all_envelopes (m ∷ moves) = envelopes_by m.does ++ all_envelopes moves

  -- in each the network may bring what arrives, given all that was sent before, by whichever node
  abbrev pub MayAllArrive : Network → List Datagram → List Move → Type 0
  MayAllArrive May sent [] = Unit {0}
  MayAllArrive May sent (m ∷ moves) =
      MayArrive May sent m.does × MayAllArrive May (sent ++ batch_of m.number (envelopes_by m.does)) moves

  -- these moves of the node at that place, one after another, take it from this state to that one
  abbrev pub RunTo : ℕ → Node → List Move → Node → Type 0
  RunTo index node [] last = last ≡ node
  RunTo index node (m ∷ moves) last =
      (m.index ≡ index) × (node ≡ node_of m.number m.before) × RunTo index (node_of m.number m.after) moves last

  -- of these moves, the node at that place makes its own, in order
  abbrev pub AreOwn : ℕ → List Move → List Move → Type 0
  AreOwn index own [] = own ≡ []
  AreOwn index own (m ∷ moves) =
      ((m.index ≡ index) × (rest : List Move) × (own ≡ m ∷ rest) × AreOwn index rest moves)
      ⊎ ((m.index ≢ index) × AreOwn index own moves)

  -- among these moves are those of a run of the node at that place, from this state
  pub record HasRun (index : ℕ) (node : Node) (moves : List Move) : Type 0 where
    pub own : List Move
    pub last : Node
    pub run : RunTo index node own last
    pub are : AreOwn index own moves

  -- these moves mix runs of the nodes in any order: each is made at a place of the cluster, and those of each node
  -- follow one another from the state that it is in
  pub record MixRuns (sim_nodes : List Node) (moves : List Move) : Type 0 where
    pub placed : AllByRecursion (λ (m : Move). m.index < length sim_nodes) moves
    pub runs : (index : ℕ) (node : Node) → At sim_nodes index node → HasRun index node moves

  -- these moves mix this run of the node at that place with runs of the others
  pub record MixWith (sim_nodes : List Node) (index : ℕ) (own : List Move) (moves : List Move) : Type 0 where
    pub placed : AllByRecursion (λ (m : Move). m.index < length sim_nodes) moves
    pub are_own : AreOwn index own moves
    pub others : (k : ℕ) (node : Node) → k ≢ index → At sim_nodes k node → HasRun k node moves

  -- these moves lead on from a cluster to a reachable one: the nodes have made them, what they gave to be sent has
  -- joined what has been sent, and these notes the trace
  pub record LeadOn (May : Network) (first : Genesis) (old : Cluster) (moves : List Move)
      (notes : List Note) : Type 0 where
    pub cluster : Cluster
    pub events : List Cluster
    pub follows : HappenAll May Metered observable old events cluster
    pub reachable : IsReachable May Metered observable first cluster
    pub keeps_genesis : cluster.genesis ≡ old.genesis
    pub sim_nodes : cluster.sim_nodes ≡ sim_nodes_after old.sim_nodes moves
    pub sent : cluster.sent ≡ old.sent ++ sent_by moves
    pub trace : cluster.trace ≡ old.trace ++ notes

  -- they add something to the trace, and whatever they add, they lead on
  pub record GoOn (honest : Honest) (May : Network) (first : Genesis) (old : Cluster) (moves : List Move) : Type 0 where
    pub notes : List Note
    pub traces : TraceAll honest moves notes
    pub lead : (notes : List Note) → TraceAll honest moves notes → LeadOn May first old moves notes

-- ---- a new cluster

-- each is down with two empty disks, and has another number than all before it
abbrev pub AreNewAfter : List Node → List Node → Type 0
AreNewAfter earlier [] = Unit {0}
AreNewAfter earlier (node ∷ nodes) =
    (device : Memory) × (node.run_state ≡ Down device)
    × ((s : Side) → disk_of device s ≡ record { synced = []; unsynced = [] }) × HasNo earlier node.number
    × AreNewAfter (earlier ++ node ∷ []) nodes

abbrev pub AreNew : List Node → Type 0
AreNew nodes = AreNewAfter [] nodes

-- the cluster of these nodes, in which nothing has happened
abbrev pub new_cluster : Genesis → List Node → Cluster
new_cluster genesis nodes = record { genesis = genesis; sim_nodes = nodes; sent = []; trace = []; ended = None }
