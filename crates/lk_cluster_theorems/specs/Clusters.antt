-- Nodes of the lock table that run as processes: each is up as a server, or down with its disks. They do turns,
-- start and stop one after another, in any order.
use Rattle.std.proofs.Common.{inl, inr}
use Rattle.std.specs.Prelude.{◌≡◌, ◌⊎◌, ℕ, true, false, Option, Some, None, List, [], ◌∷◌, ◌++◌}
use Rattle.std.specs.Prelude.{map, drop, Contains}
use Rattle.std.specs.List.{AllByRecursion}
use Rattle.std.specs.declared.net.socket_addr.SocketAddr.{SocketAddr}
use Rattle.lk_types.specs.declared.genesis.Genesis.{Genesis}
use Rattle.lk_disk.specs.Disk.{Disk}
use Rattle.lk_memory_disk.specs.Memory.{Memory, disk_of}
use Rattle.lk_disk.specs.declared.device.Side.{Side}
use Rattle.lk_locks.specs.Meaning.{table_meaning}
use Rattle.lk_locks.specs.Packed.{IsTableText}
use Rattle.lk_log.specs.StoreValue.{disks}
use Rattle.lk_node_interface.specs.Envelopes.{EnvelopeValue, batch_of}
use Rattle.lk_node_interface.specs.declared.note.Note.{Note}
use Rattle.lk_node.specs.Histories.{Datagram, RequestValue}
use Rattle.lk_node.specs.Holdings.{Holding}
use Rattle.lk_node.specs.Keeping.{ReplicaHolds}
use Rattle.lk_replica.specs.Groups.{StepSaid}
use Rattle.lk_replica.specs.ReplicaValue.{ReplicaValue}
use Rattle.lk_server_replica.specs.Sayings.{SaysByGroup, IsSilenced, SaysOf}
use Rattle.lk_server.specs.Premises.{IsNoNodeMessage}
use Rattle.lk_address_book.specs.declared.hosts.HostNews.{HostNews}
use Rattle.lk_node_process.specs.Turns.{ActsBeside}
use Rattle.lk_server.specs.Servers.{ServerValue, Turn, LastTurn, IsIdle}
use Rattle.lk_probe.specs.declared.reported.Reported.{Reported}
use Rattle.lk_transport.specs.declared.received_probe.ReceivedProbe.{ReceivedProbe}
use Rattle.lk_transport.specs.declared.received_watch.ReceivedWatch.{ReceivedWatch}
use Rattle.lk_sim.specs.Events.{ReplacesSeat, Adds}
use Rattle.lk_sim.specs.Networks.{MayCome, AreAsking, RecordsReplies, RestartsBy, Appears, Restarts, IsStillDown, Stops}
use Rattle.lk_sim.specs.Networks.{nothing}
use Rattle.lk_sim.specs.WorldStates.{WorldState}
use Rattle.lk_sim.specs.Traces.{asked_note}
use Rattle.lk_sim_nodes.specs.declared.sim_node.RunState.{RunState}
use Rattle.lk_sim_nodes.specs.declared.sim_node.RunState.TheVariants.{Up, Down}
use Rattle.lk_sim_nodes.specs.declared.sim_node.SimNode.{SimNode}

-- a node: its number, and that it is up as a server, or down with its disks
abbrev pub Node : Type 0
Node = SimNode (ServerValue ReplicaValue)

-- the genesis of a cluster, its nodes, all datagrams that they have produced, in order, including those to themselves
-- and those whose send has failed, and its trace
abbrev pub Cluster : Type 0
Cluster = WorldState (ServerValue ReplicaValue)

-- the same life, node and cluster with the replica of each server in its place: the guarantee is stated for these
abbrev pub run_state_of : RunState (ServerValue ReplicaValue) → RunState ReplicaValue
run_state_of (Up s) = Up s.replica
run_state_of (Down d) = Down d

abbrev pub sim_node_of : Node → SimNode ReplicaValue
sim_node_of s = record { number = s.number; run_state = run_state_of s.run_state }

abbrev pub world_state_of : Cluster → WorldState ReplicaValue
world_state_of c = record {
  genesis = c.genesis;
  sim_nodes = map sim_node_of c.sim_nodes;
  sent = c.sent;
  trace =
      c.trace;
  ended = None;
}

-- what a server holds, and what its disks hold
abbrev pub ServerHolds : ServerValue ReplicaValue → Genesis → ℕ → Holding → Type 0
ServerHolds s genesis n x = ReplicaHolds table_meaning s.replica.node s.replica.store genesis n x

abbrev pub server_disks : ServerValue ReplicaValue → Side → Disk
server_disks s = disks s.replica.store

-- the two disks of a node, up or down
abbrev pub disks_in : RunState (ServerValue ReplicaValue) → Side → Disk
disks_in (Up server) = server_disks server
disks_in (Down device) = disk_of device

-- the server of that node has started from what these disks have, and no envelope to itself is waiting
pub record HasStarted (genesis : Genesis) (n : ℕ) (old : Side → Disk) (s : ServerValue ReplicaValue) : Type 0 where
  pub notes : List Note
  pub restarts : RestartsBy ServerHolds server_disks table_meaning genesis n old s notes
  pub loopback : s.loopback ≡ []
  pub alive : s.replica.failed ≡ false

-- ---- what a network may bring

-- what a server of a cluster with this genesis may take from what arrives in a turn, given what has been sent
abbrev pub Network : Type 1
Network = Genesis → List Datagram → ServerValue ReplicaValue → List (SocketAddr × List ℕ) → Type 0

-- whatever the bytes of each say on behalf of a node of the cluster, that node has said. Everything else is free:
-- datagrams are lost, repeated, late, cut, or come from clients, from other clusters, or from nobody
abbrev pub ForgesNothing : Network
ForgesNothing genesis sent server came =
    AllByRecursion (λ (c : SocketAddr × List ℕ). MayCome genesis sent (Some c.1)) came

-- a node of the cluster has sent a datagram of these bytes
abbrev pub WasGiven : List Datagram → List ℕ → Type 0
WasGiven sent bytes = (d : Datagram) × Contains sent d × (d.bytes ≡ bytes)

-- each is a copy of a datagram that a node of the cluster has sent, or no node's message. So it is where nobody but the
-- nodes sends such messages; the network forges nothing then
abbrev pub OnlyDelivers : Network
OnlyDelivers genesis sent server came =
    AllByRecursion (λ (c : SocketAddr × List ℕ). WasGiven sent c.1 ⊎ IsNoNodeMessage c.1) came

-- ---- what a replica says

-- `Metered` says that the devices count their calls
module _ (Metered : Type 0) where
  -- the effect of a group on a replica of the lock table, and its envelopes
  abbrev pub Says : ReplicaValue → List (Option (List ℕ)) → List EnvelopeValue → ReplicaValue → Type 0
  Says = SaysOf table_meaning IsTableText Metered

  -- the notes and envelopes of each step of a group; of a rejected group nothing
  abbrev pub steps_of : {old new : ReplicaValue} {given : List (Option (List ℕ))} {envelopes : List EnvelopeValue}
      → SaysByGroup table_meaning IsTableText Metered old given envelopes new ⊎ IsSilenced envelopes new → List StepSaid
  steps_of (inl s) = s.said
  steps_of (inr s) = []

-- the first of these steps, or, if there is none, one without notes and envelopes
abbrev pub next_step : List StepSaid → StepSaid
next_step [] = ([], [])
next_step (step ∷ said) = step

-- what a step of the node of that number, with this input, adds to the trace: the request in the input, if it is one to
-- this cluster, its notes, and the answers and passes that it sends
pub record TracesStep (cluster n : ℕ) (o : Option (List ℕ)) (step : StepSaid) (trace : List Note) : Type 0 where
  pub request : Option RequestValue
  pub asks : AreAsking cluster o request
  pub told : List Note
  pub tells_of : RecordsReplies (batch_of n step.1) told
  pub trace_is : trace ≡ (asked_note request ++ step.0) ++ told

-- and what a group adds, one step after another
abbrev pub TracesGroup : ℕ → ℕ → List (Option (List ℕ)) → List StepSaid → List Note → Type 0
TracesGroup cluster n [] said trace = trace ≡ []
TracesGroup cluster n (o ∷ given) said trace =
    (here : List Note) × (rest : List Note) × (trace ≡ here ++ rest) × TracesStep cluster n o (next_step said) here
    × TracesGroup cluster n given (drop 1 said) rest

-- ---- what happens

-- a node that was down is up as a server with what its disks have, and no envelope to itself is waiting
pub record Starts (old new : Cluster) : Type 0 where
  pub restarts : Restarts ServerHolds server_disks table_meaning old new
  pub loopback : restarts.replica.loopback ≡ []
  pub alive : restarts.replica.replica.failed ≡ false

-- a node that is up takes an idle turn, or handles probes and watches, notes who has joined and may read its hosts
-- again: its replica is given nothing, and nothing is given to be sent as a datagram of the node. Only where nodes
-- live, who has joined, what it knows of the nodes at other addresses, who waits for a name, what is to come to its
-- socket, what that has sent, how many of its sends have failed, how many ticks were withheld and how many of these
-- count as silence may be another. `observable` says that the sockets tell that
pub record Idles (observable : Type 0) (old new : Cluster) : Type 0 where
  pub node : Node
  pub next : Node
  pub replaces : ReplacesSeat old.sim_nodes new.sim_nodes node next
  pub server : ServerValue ReplicaValue
  pub was : node.run_state ≡ Up server
  pub after : ServerValue ReplicaValue
  pub up : next.run_state ≡ Up after
  pub idle : ((frames : List (SocketAddr × List ℕ)) × IsIdle observable frames server after)
      ⊎ ((news : HostNews) × (asked : Option ReceivedProbe) × (reported : Option Reported)
      × (watched : Option ReceivedWatch) × ActsBeside observable news asked reported watched server after)
  pub adds : Adds old new [] []

-- `May` says what the network may bring, `Metered` that the devices count their calls, and `observable` that the
-- sockets reveal what they send
module _ (May : Network) (Metered observable : Type 0) where
  -- a node that is up does a turn, in which datagrams may arrive or nothing: its replica takes the input as one
  -- group, and its envelopes join what has been sent. `came` is what it takes from what arrives, out of its frame if
  -- the nodes have a key
  pub record DoesTurn (old new : Cluster) : Type 0 where
    pub node : Node
    pub next : Node
    pub replaces : ReplacesSeat old.sim_nodes new.sim_nodes node next
    pub server : ServerValue ReplicaValue
    pub was : node.run_state ≡ Up server
    pub after : ServerValue ReplicaValue
    pub up : next.run_state ≡ Up after
    pub came : List (SocketAddr × List ℕ)
    pub may : May old.genesis old.sent server came
    pub turn : Turn (Says Metered) observable came server after
    pub alive : after.replica.failed ≡ false
    pub trace : List Note
    pub traces : TracesGroup old.genesis.cluster node.number turn.given (steps_of Metered turn.hands_on.says.comes)
        trace
    pub adds : Adds old new trace (batch_of node.number turn.hands_on.envelopes)

  -- a turn ends a node, and it is down with the disks that its replica has left
  pub record EndsByTurn (old new : Cluster) : Type 0 where
    pub node : Node
    pub next : Node
    pub replaces : ReplacesSeat old.sim_nodes new.sim_nodes node next
    pub server : ServerValue ReplicaValue
    pub was : node.run_state ≡ Up server
    pub after : ServerValue ReplicaValue
    pub left : Memory
    pub down : next.run_state ≡ Down left
    pub same : (s : Side) → disk_of left s ≡ server_disks after s
    pub came : List (SocketAddr × List ℕ)
    pub may : May old.genesis old.sent server came
    pub turn : LastTurn (Says Metered) observable came server after
    pub ended : after.replica.failed ≡ true
    pub trace : List Note
    pub traces : TracesGroup old.genesis.cluster node.number turn.given (steps_of Metered turn.hands_on.says.comes)
        trace
    pub adds : Adds old new trace (batch_of node.number turn.hands_on.envelopes)

  -- a node appears, with empty disks; it starts, or does not; it does a turn, or an idle one, or handles probes and
  -- watches, or ends by a turn; or it stops, up or down, and its disks have what a stop may leave. A stop in a turn is
  -- no event of its own: only a call of the device changes the disks, so such a stop is a turn that ended the node at
  -- the call that was not made, or the whole turn if none was left to make, and then a stop
  abbrev pub Happens : Cluster → Cluster → Type 0
  Happens old new =
      Appears old new ⊎ Starts old new ⊎ IsStillDown table_meaning old new ⊎ DoesTurn old new
      ⊎ Idles observable old new
      ⊎ EndsByTurn old new ⊎ Stops server_disks old new

  -- these events happen one after another, and lead to this cluster
  abbrev pub HappenAll : Cluster → List Cluster → Cluster → Type 0
  HappenAll first [] last = last ≡ first
  HappenAll first (next ∷ clusters) last = Happens first next × HappenAll next clusters last

  -- the cluster is reachable: these events lead to it from its genesis
  abbrev pub IsReachable : Genesis → Cluster → Type 0
  IsReachable genesis c = (clusters : List Cluster) × HappenAll (nothing genesis) clusters c
