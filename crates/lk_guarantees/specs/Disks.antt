-- What the disks of nodes keep, and the bytes of a snapshot. Which bytes are which entries, which file is live, and
-- what entries stand for, is the grammar of files.
use Rattle.std.specs.Prelude.{◌≡◌, ℕ, ◌+◌, ◌*◌, ◌<◌, ◌≤◌, ◌⊎◌, ◌==◌, Bool, if◌then◌else◌, Some, List, [], ◌∷◌, ◌++◌}
use Rattle.std.specs.Prelude.{length, take, count_by, Contains, IsTrue}
use Rattle.std.specs.List.{flat_map}
use Rattle.lk_types.specs.Ballots.{IsBelow, IsAtMost}
use Rattle.lk_types.specs.declared.command.Command.{Command}
use Rattle.lk_types.specs.declared.genesis.Genesis.{Genesis}
use Rattle.lk_types.specs.declared.member.Member.{Member}
use Rattle.lk_types.specs.declared.vote.Vote.{Vote}
use Rattle.lk_disk.specs.Disk.{Disk}
use Rattle.lk_memory_disk.specs.Memory.{Memory}
use Rattle.lk_disk.specs.declared.device.Side.{Side}
use Rattle.lk_disk.specs.declared.device.Side.TheVariants.{A, B}
use Rattle.lk_messages.specs.declared.message.NodeMessage.{NodeMessage}
use Rattle.lk_messages.specs.declared.message.NodeMessage.TheVariants as message
use Rattle.lk_store_format.specs.Standings.{HasHeader, StandsFor}
use Rattle.lk_store_format.specs.Values.{StandingValue}
use Rattle.lk_store_format.specs.declared.stored.Stored.{Stored}
use Rattle.lk_store_format.specs.declared.stored.Stored.TheVariants.{Base}
use Rattle.lk_log.specs.Images.{IsLive, IsEmpty}
use Rattle.lk_log.specs.Stores.{first_base}
use Rattle.lk_agreement_laws.specs.Datagrams.{Datagram}
use Rattle.lk_replica.specs.ReplicaValue.{ReplicaValue, device_of}
use Rattle.lk_sim_nodes.specs.declared.sim_node.RunState.{RunState}
use Rattle.lk_sim_nodes.specs.declared.sim_node.RunState.TheVariants.{Up, Down}
use Rattle.lk_sim_nodes.specs.declared.sim_node.SimNode.{SimNode}
use Rattle.lk_codec.specs.Fields as field
use Rattle.lk_state.specs.declared.session.Session.{Session}
use Rattle.lk_guarantees.specs.Chosen.{Says, IsChosen, IsPrefix}
use Rattle.lk_guarantees.specs.Plain.{at, members, Kept, IsKeptOf}

-- ---- the bytes of a snapshot

-- its bytes, in the fields that datagrams have too: numbers of one byte, two, four and eight, most significant byte
-- first
abbrev pub members_text : List Member → List ℕ
members_text set = field.one (length set) ++ flat_map field.member set

abbrev pub session_text : Session → List ℕ
session_text s = field.two s.client ++ (field.eight s.number ++ field.answer s.answer)

abbrev pub kept_text : Kept → List ℕ
kept_text kept =
    ((field.eight kept.executed
    ++ ((field.one (length kept.incoming) ++ flat_map members_text kept.incoming)
    ++ (field.four kept.greatest ++ field.eight kept.changed)))
    ++ (field.two (length kept.sessions) ++ flat_map session_text kept.sessions))
    ++ kept.locks

-- the bytes are a snapshot of the list: what is kept of it
abbrev pub IsSnapshot : Genesis → List Command → List ℕ → Type 0
IsSnapshot genesis L bytes = (kept : Kept) × IsKeptOf genesis L kept × (bytes ≡ kept_text kept)

-- ---- what the disks of a node keep

-- the two disks of a node, up or down
abbrev pub device_in : RunState ReplicaValue → Memory
device_in (Up replica) = device_of replica.store
device_in (Down device) = device

-- a stop leaves of a disk everything that was synced, and a prefix of the rest
abbrev pub MayRemain : Disk → List ℕ → Type 0
MayRemain disk left = (kept : ℕ) × (left ≡ disk.synced ++ take kept disk.unsynced)

-- of both
abbrev pub MayRemainOf : RunState ReplicaValue → (Side → List ℕ) → Type 0
MayRemainOf run_state image = MayRemain (device_in run_state).a (image A) × MayRemain (device_in run_state).b (image B)

-- what a node remembers from these bytes: what the entries of its live file stand for; or, if no file was begun, no
-- more than a snapshot of no commands. (Which bytes are which entries, which file is live, and what entries stand for,
-- is the grammar of files)
pub record Remembers (genesis : Genesis) (node : ℕ) (image : Side → List ℕ) (memory : StandingValue) : Type 0 where
  pub entries : List Stored
  pub stand_for : StandsFor entries memory
  pub of_node : HasHeader entries
      (record { node = node; cluster = genesis.cluster; alpha = genesis.alpha; members = genesis.members })
  pub live : IsLive image entries
      ⊎ (IsEmpty image × ((blank : List ℕ) × IsSnapshot genesis [] blank
      × (entries ≡ Base (first_base
      (record { node = node; cluster = genesis.cluster; alpha = genesis.alpha; members = genesis.members }) blank)
      ∷ [])))

-- the node remembers this from each image that a stop may leave of its disks
abbrev pub EachImage : Genesis → SimNode ReplicaValue → (StandingValue → Type 0) → Type 0
EachImage genesis s Is =
    (image : Side → List ℕ) → MayRemainOf s.run_state image
    → (memory : StandingValue) × Remembers genesis s.number image memory × Is memory

-- its snapshot is one of a chosen list
abbrev pub HasSnapshot : Genesis → List Datagram → StandingValue → Type 0
HasSnapshot genesis sent memory =
    (L : List Command) × IsChosen genesis sent L × (length L ≡ memory.position) × IsSnapshot genesis L memory.snapshot

-- the position up to which a restart executes: from that of the snapshot, one more for each decided command without a
-- gap
abbrev pub reach : ℕ → List (ℕ × Command) → ℕ
reach position [] = position
reach position (p ∷ pairs) = if p.0 == position + 1 then reach (position + 1) pairs else position

-- no vote and no decided command lies more than twice alpha above that
pub record IsNear (genesis : Genesis) (memory : StandingValue) : Type 0 where
  pub votes : (x : Vote) → Contains memory.votes x
      → x.position ≤ reach memory.position memory.pairs + 2 * genesis.alpha
  pub pairs : (p : ℕ × Command) → Contains memory.pairs p
      → p.0 ≤ reach memory.position memory.pairs + 2 * genesis.alpha

-- each node has such a snapshot, and nothing lies too far above it for a restart, whatever a stop may leave of it
abbrev pub HaveSnapshots : Genesis → List (SimNode ReplicaValue) → List Datagram → Type 0
HaveSnapshots genesis sim_nodes sent =
    (s : SimNode ReplicaValue) → Contains sim_nodes s
    → EachImage genesis s (λ memory. HasSnapshot genesis sent memory × IsNear genesis memory)

-- the vote, or one for its position in a greater ballot, is among these
abbrev pub HasVote : List Vote → Vote → Type 0
HasVote votes x = (y : Vote) × Contains votes y × (y.position ≡ x.position)
    × (IsBelow x.ballot y.ballot ⊎ ((y.ballot ≡ x.ballot) × (y.command ≡ x.command)))

-- what was promised is remembered, and so is each vote, unless a snapshot has replaced it. (Lamport, Paxos Made
-- Simple, 2001, section 2.2: an acceptor must remember this even if it fails and then restarts)
abbrev pub IsCovered : StandingValue → NodeMessage → Type 0
IsCovered memory (message.Prepare ballot first) = IsAtMost ballot memory.promised
IsCovered memory (message.Promise p) = IsAtMost p.ballot memory.promised
IsCovered memory (message.Accept x) = IsAtMost x.ballot memory.promised
IsCovered memory (message.Accepted x) =
    IsAtMost x.ballot memory.promised × ((x.position ≤ memory.position) ⊎ HasVote memory.votes x)
IsCovered memory _ = Unit {0}

-- everything that a node has sent is covered, whatever a stop may leave of it
abbrev pub AreCovered : Genesis → List (SimNode ReplicaValue) → List Datagram → Type 0
AreCovered genesis sim_nodes sent =
    (s : SimNode ReplicaValue) → Contains sim_nodes s
    → EachImage genesis s (λ memory. (m : NodeMessage) → Says genesis sent s.number m → IsCovered memory m)

-- the command of position i is remembered: by a snapshot of a chosen list that reaches it and agrees with this one, or
-- by a vote
abbrev pub IsRemembered : Genesis → List Datagram → List Command → ℕ → Command → StandingValue → Type 0
IsRemembered genesis sent L i v memory =
    ((i ≤ memory.position)
    × ((K : List Command) × IsChosen genesis sent K × (length K ≡ memory.position)
    × IsSnapshot genesis K memory.snapshot × (IsPrefix K L ⊎ IsPrefix L K)))
    ⊎ ((y : Vote) × Contains memory.votes y × (y.position ≡ i) × (y.command ≡ v))

-- more than half of the members of position i remember its command, whatever a stop may leave of them
pub record IsKeptBy (genesis : Genesis) (sim_nodes : List (SimNode ReplicaValue)) (sent : List Datagram)
    (L : List Command)
    (i : ℕ) (v : Command) : Type 0 where
  pub among : Member → Bool
  pub more_than_half : length (members genesis L i) < 2 * count_by among (members genesis L i)
  pub each : (m : Member) → Contains (members genesis L i) m → IsTrue (among m)
      → (s : SimNode ReplicaValue) × Contains sim_nodes s × (s.number ≡ m.node)
      × EachImage genesis s (IsRemembered genesis sent L i v)

-- so it is for each command of a chosen list
abbrev pub AreKept : Genesis → List (SimNode ReplicaValue) → List Datagram → Type 0
AreKept genesis sim_nodes sent =
    (L : List Command) (i : ℕ) (v : Command) → IsChosen genesis sent L → at L i ≡ Some v
    → IsKeptBy genesis sim_nodes sent L i v

-- ---- how long the files of a node are

-- at most 262,144 bytes, synced or not
abbrev pub IsShort : Disk → Type 0
IsShort disk = length (disk.synced ++ disk.unsynced) ≤ 262144

-- both files of each node, up or down
abbrev pub AreShort : List (SimNode ReplicaValue) → Type 0
AreShort sim_nodes =
    (s : SimNode ReplicaValue) → Contains sim_nodes s → IsShort (device_in s.run_state).a
    × IsShort (device_in s.run_state).b
