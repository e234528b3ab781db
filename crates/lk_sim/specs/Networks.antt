-- Processes of a network: nodes that take what arrives, start and stop, one step of one node after another, in any
-- order.
use Rattle.std.specs.Prelude.{◌≡◌, ◌⊎◌, ℕ, Option, Some, None, List, [], ◌∷◌, ◌++◌}
use Rattle.lk_disk.specs.Disk.{Disk, after_stop}
use Rattle.lk_memory_disk.specs.Memory.{Memory, disk_of}
use Rattle.lk_disk.specs.declared.device.Side.{Side}
use Rattle.lk_messages.specs.Grammar.{Spells}
use Rattle.lk_messages.specs.declared.message.Content.TheVariants as content
use Rattle.lk_messages.specs.declared.message.Message.{Message}
use Rattle.lk_messages.specs.declared.message.NodeMessage.{NodeMessage}
use Rattle.lk_state.specs.Meanings.{Meaning}
use Rattle.lk_agreement_laws.specs.Datagrams.{said_by, HasSent}
use Rattle.lk_node_interface.specs.declared.note.Note.{Note}
use Rattle.lk_node.specs.Calls.{NodeFits, LeavesFit}
use Rattle.lk_node.specs.Histories.{History, Genesis, Datagram, RequestValue, IsHeard, IsLawful}
use Rattle.lk_node.specs.Holdings.{Holding}
use Rattle.lk_node.specs.Leavings.{DisksFit}
use Rattle.lk_sim_nodes.specs.Rooms.{AreShort}
use Rattle.lk_sim_nodes.specs.SimNodes.{At}
use Rattle.lk_sim.specs.Events.{ReplacesSeat, Adds}
use Rattle.lk_sim.specs.WorldStates.{WorldState}
use Rattle.lk_sim_nodes.specs.Told.{told_by}
use Rattle.lk_sim.specs.Traces.{asked_note}
use Rattle.lk_sim_nodes.specs.declared.sim_node.SimNode.{SimNode}
use Rattle.lk_sim_nodes.specs.declared.sim_node.RunState.TheVariants.{Up, Down}

-- ---- what arrives at a node

-- what the bytes say on behalf of a node of the cluster, that node has said. Nothing is assumed of any other bytes:
-- they may be lost, repeated, late, cut, of a client, of another cluster, or of nobody
abbrev pub MayCome : Genesis → List Datagram → Option (List ℕ) → Type 0
MayCome genesis sent None = Unit {0}
MayCome genesis sent (Some bytes) =
    (n : ℕ) (x : NodeMessage) → Spells (said_by genesis n x) bytes → HasSent genesis sent n x

-- the request to this cluster in the bytes, if there is one. One to another cluster asks nothing here
pub record IsRequestIn (cluster : ℕ) (bytes : List ℕ) (o : Option RequestValue) : Type 0 where
  pub only : (r : RequestValue) → Spells (record { cluster = cluster; content = content.Request r }) bytes
      → o ≡ Some r
  pub some : (r : RequestValue) → o ≡ Some r
      → Spells (record { cluster = cluster; content = content.Request r }) bytes

-- the request that arrives
abbrev pub AreAsking : ℕ → Option (List ℕ) → Option RequestValue → Type 0
AreAsking cluster None o = o ≡ None
AreAsking cluster (Some bytes) o = IsRequestIn cluster bytes o

-- a tick, or bytes that may arrive
abbrev pub MayHear : History → Option (List ℕ) → Type 0
MayHear h None = Unit {0}
MayHear h (Some bytes) = IsHeard h bytes

-- these notes are, in order, those of the answers and passes among the datagrams; one that does not parse has none
abbrev pub RecordsReplies : List Datagram → List Note → Type 0
RecordsReplies [] notes = notes ≡ []
RecordsReplies (d ∷ ds) notes =
    ((m : Message) × (rest : List Note) × Spells m d.bytes × (notes ≡ told_by m.content ++ rest)
    × RecordsReplies ds rest)
    ⊎ (((m : Message) → Spells m d.bytes → ⊥) × RecordsReplies ds notes)

-- ---- what a node does, in each history that it fits. `Shows` says what it holds, and `disks` what its disks hold

-- with that input it goes on: what it holds permits everything that it notes and sends, and each image that a stop may
-- leave fits with any prefix of that sent
pub record GoesBy {R : Type 0} (Shows : R → Genesis → ℕ → Holding → Type 0) (disks : R → Side → Disk) (m : Meaning)
    (n : ℕ) (r : R) (o : Option (List ℕ)) (q : R) (notes : List Note) (batch : List Datagram) : Type 0 where
  pub goes : (h : History) → NodeFits m h n (Shows r h.genesis n) (disks r) → MayHear h o
      → LeavesFit m h n (Shows q h.genesis n) (disks q) notes batch
  pub short : AreShort (disks r) → AreShort (disks q)

-- with that input it ends, and each image that a stop may leave of these disks fits
pub record EndsBy {R : Type 0} (Shows : R → Genesis → ℕ → Holding → Type 0) (disks : R → Side → Disk) (m : Meaning)
    (n : ℕ) (r : R) (o : Option (List ℕ)) (left : Side → Disk) : Type 0 where
  pub ends : (h : History) → NodeFits m h n (Shows r h.genesis n) (disks r) → MayHear h o → DisksFit m h n left
  pub short : AreShort (disks r) → AreShort left

-- it restarts from what its disks have
pub record RestartsBy {R : Type 0} (Shows : R → Genesis → ℕ → Holding → Type 0) (disks : R → Side → Disk) (m : Meaning)
    (genesis : Genesis) (n : ℕ) (old : Side → Disk) (q : R) (notes : List Note) : Type 0 where
  pub goes : (h : History) → h.genesis ≡ genesis → IsLawful m h → DisksFit m h n old
      → LeavesFit m h n (Shows q h.genesis n) (disks q) notes []
  pub short : AreShort old → AreShort (disks q)

-- it does not, and leaves these disks
pub record RestsBy (m : Meaning) (genesis : Genesis) (n : ℕ) (old left : Side → Disk) : Type 0 where
  pub ends : (h : History) → h.genesis ≡ genesis → IsLawful m h → DisksFit m h n old → DisksFit m h n left
  pub short : AreShort old → AreShort left

-- ---- a step

-- a node of a new number appears, with two empty disks
pub record Appears {R : Type 0} (old new : WorldState R) : Type 0 where
  pub sim_node : SimNode R
  pub unused : (k : ℕ) (t : SimNode R) → At old.sim_nodes k t → t.number ≡ sim_node.number → ⊥
  pub device : Memory
  pub down : sim_node.run_state ≡ Down device
  pub empty : (s : Side) → disk_of device s ≡ record { synced = []; unsynced = [] }
  pub sim_nodes : new.sim_nodes ≡ old.sim_nodes ++ sim_node ∷ []
  pub adds : Adds old new [] []

-- a node that was down has started
pub record Restarts {R : Type 0} (Shows : R → Genesis → ℕ → Holding → Type 0) (disks : R → Side → Disk) (m : Meaning)
    (old new : WorldState R) : Type 0 where
  pub sim_node : SimNode R
  pub next : SimNode R
  pub replaces : ReplacesSeat old.sim_nodes new.sim_nodes sim_node next
  pub device : Memory
  pub down : sim_node.run_state ≡ Down device
  pub replica : R
  pub up : next.run_state ≡ Up replica
  pub notes : List Note
  pub restarts : RestartsBy Shows disks m old.genesis sim_node.number (disk_of device) replica notes
  pub adds : Adds old new notes []

-- a node that was down has stayed down
pub record IsStillDown {R : Type 0} (m : Meaning) (old new : WorldState R) : Type 0 where
  pub sim_node : SimNode R
  pub next : SimNode R
  pub replaces : ReplacesSeat old.sim_nodes new.sim_nodes sim_node next
  pub device : Memory
  pub down : sim_node.run_state ≡ Down device
  pub left : Memory
  pub still : next.run_state ≡ Down left
  pub rests : RestsBy m old.genesis sim_node.number (disk_of device) (disk_of left)
  pub adds : Adds old new [] []

-- a node that is up took a tick, or what may arrive, and went on
pub record GoesOn {R : Type 0} (Shows : R → Genesis → ℕ → Holding → Type 0) (disks : R → Side → Disk) (m : Meaning)
    (old new : WorldState R) : Type 0 where
  pub sim_node : SimNode R
  pub next : SimNode R
  pub replaces : ReplacesSeat old.sim_nodes new.sim_nodes sim_node next
  pub before : R
  pub was : sim_node.run_state ≡ Up before
  pub after : R
  pub up : next.run_state ≡ Up after
  pub came : Option (List ℕ)
  pub may : MayCome old.genesis old.sent came
  pub request : Option RequestValue
  pub asks : AreAsking old.genesis.cluster came request
  pub notes : List Note
  pub told : List Note
  pub batch : List Datagram
  pub goes : GoesBy Shows disks m sim_node.number before came after notes batch
  pub tells : RecordsReplies batch told
  pub adds : Adds old new ((asked_note request ++ notes) ++ told) batch

-- it ended with that
pub record Ends {R : Type 0} (Shows : R → Genesis → ℕ → Holding → Type 0) (disks : R → Side → Disk) (m : Meaning)
    (old new : WorldState R) : Type 0 where
  pub sim_node : SimNode R
  pub next : SimNode R
  pub replaces : ReplacesSeat old.sim_nodes new.sim_nodes sim_node next
  pub before : R
  pub was : sim_node.run_state ≡ Up before
  pub left : Memory
  pub down : next.run_state ≡ Down left
  pub came : Option (List ℕ)
  pub may : MayCome old.genesis old.sent came
  pub request : Option RequestValue
  pub asks : AreAsking old.genesis.cluster came request
  pub ends : EndsBy Shows disks m sim_node.number before came (disk_of left)
  pub adds : Adds old new (asked_note request) []

-- a node, up or down, has stopped: each of its disks has what was synced, and a prefix of the rest
pub record Stops {R : Type 0} (disks : R → Side → Disk) (old new : WorldState R) : Type 0 where
  pub sim_node : SimNode R
  pub next : SimNode R
  pub replaces : ReplacesSeat old.sim_nodes new.sim_nodes sim_node next
  pub left : Memory
  pub down : next.run_state ≡ Down left
  pub was_up : (r : R) → sim_node.run_state ≡ Up r → (s : Side) → (k : ℕ) × (disk_of left s ≡ after_stop k (disks r s))
  pub was_down : (d : Memory) → sim_node.run_state ≡ Down d → (s : Side)
      → (k : ℕ) × (disk_of left s ≡ after_stop k (disk_of d s))
  pub adds : Adds old new [] []

abbrev pub Steps : {R : Type 0} → (R → Genesis → ℕ → Holding → Type 0) → (R → Side → Disk) → Meaning
    → WorldState R → WorldState R → Type 0
Steps Shows disks m old new =
    Appears old new ⊎ Restarts Shows disks m old new ⊎ IsStillDown m old new ⊎ GoesOn Shows disks m old new
    ⊎ Ends Shows disks m old new ⊎ Stops disks old new

-- these steps were taken one after another, and the last of them led to this
abbrev pub StepsAll : {R : Type 0} → (R → Genesis → ℕ → Holding → Type 0) → (R → Side → Disk) → Meaning → WorldState R
    → List (WorldState R) → WorldState R → Type 0
StepsAll Shows disks m first [] last = last ≡ first
StepsAll Shows disks m first (next ∷ world_states) last =
    Steps Shows disks m first next × StepsAll Shows disks m next world_states last

-- nothing has happened
abbrev pub nothing : {R : Type 0} → Genesis → WorldState R
nothing genesis = record { genesis = genesis; sim_nodes = []; sent = []; trace = []; ended = None }
