-- Restarts are idempotent: a node that is stopped and started again, however often and whatever its disks keep of what
-- was not synced, is the same node and notes the same.
--
-- That a recovery may be repeated: Mohan et al., ARIES, 1992.
use Rattle.std.specs.Prelude.{◌≡◌, ℕ, ◌⊎◌, Some, Ok, Err, List, [], ◌∷◌, ◌++◌, set, slice_get, Contains}
use Rattle.lk_memory_disk.specs.Memory.{Memory, disk_of}
use Rattle.lk_store_format.specs.Formats.{format}
use Rattle.lk_store_format.specs.Values.{HeaderValue}
use Rattle.lk_store_format.specs.declared.stored.Stored.{Stored}
use Rattle.lk_locks.specs.Meaning.{table_meaning}
use Rattle.lk_locks.specs.Packed.{IsTableText}
use Rattle.lk_log.specs.Images.{IsLive, seen}
use Rattle.lk_replica.specs.ReplicaValue.{ReplicaValue, device_of}
use Rattle.lk_replica.specs.Revived.{RevivesTo}
use Rattle.lk_sim.specs.WorldStates.{WorldState}
use Rattle.lk_sim.specs.declared.event.Event.{Event}
use Rattle.lk_sim.specs.declared.event.Event.TheVariants as event
use Rattle.lk_sim_nodes.specs.declared.sim_node.RunState.TheVariants.{Up, Down}
use Rattle.lk_node_interface.specs.declared.note.Note.{Note}
use Rattle.lk_guarantees.specs.Events.{remaining}

-- a restart on this device came to this replica and these notes
abbrev pub ComesUp : HeaderValue → Memory → ReplicaValue → List Note → Type 0
ComesUp header device replica notes = RevivesTo table_meaning IsTableText device header (Ok (replica, notes))

-- it was refused with the fault of this number
abbrev pub StaysDown : HeaderValue → Memory → ℕ → Type 0
StaysDown header device number =
    (left : Memory) × RevivesTo table_meaning IsTableText device header (Err (number, left))

-- a stop of the replica left this device, with some of the bytes that were not synced
abbrev pub IsLeftBy : ReplicaValue → Memory → Type 0
IsLeftBy replica left =
    (x y : ℕ) × (left.a ≡ remaining x (device_of replica.store).a) × (left.b ≡ remaining y (device_of replica.store).b)

-- stops and restarts, one after another: each stop leaves a device, on which the replica comes up with some notes
abbrev pub Restarts : HeaderValue → ReplicaValue → List (Memory × (ReplicaValue × List Note)) → Type 0
Restarts header replica [] = Unit {0}
Restarts header replica (x ∷ more) = IsLeftBy replica x.0 × ComesUp header x.0 x.1.0 x.1.1 × Restarts header x.1.0 more

-- the replica that came up last
abbrev pub last_up : ReplicaValue → List (Memory × (ReplicaValue × List Note)) → ReplicaValue
last_up replica [] = replica
last_up replica (x ∷ more) = last_up x.1.0 more

-- no file of format 1 is read: the first restart writes such a file anew
abbrev pub ReadsFormatTwo : Memory → Type 0
ReadsFormatTwo device = (entries : List Stored) → IsLive (seen (disk_of device)) entries → format entries ≡ 2

-- what comes after a restart that came to this replica and these notes
pub record IsIdempotent (header : HeaderValue) (replica : ReplicaValue) (notes : List Note) : Type 0 where
  -- each further one comes to the same node and the same notes
  pub same : (more : List (Memory × (ReplicaValue × List Note))) → Restarts header replica more
      → (x : Memory × (ReplicaValue × List Note)) → Contains more x → (x.1.0.node ≡ replica.node) × (x.1.1 ≡ notes)
  -- and is refused for nothing but a call of the device that failed, or memory
  pub comes_up : (more : List (Memory × (ReplicaValue × List Note))) → Restarts header replica more → (left : Memory)
      → IsLeftBy (last_up replica more) left → (number : ℕ) → StaysDown header left number → (number ≡ 7) ⊎ (number ≡ 8)

-- ---- in a world

-- the file that a restart of the node reads is not of format 1
abbrev pub FindsFormatTwo : WorldState ReplicaValue → ℕ → Type 0
FindsFormatTwo world n =
    (device : Memory) → Contains world.sim_nodes (record {
      number = n;
      run_state =
          Down device;
    }) → ReadsFormatTwo device

-- the node stops and restarts, as often as there are pairs: each says how many bytes of its disks A and B that were not
-- synced the stop keeps at most
abbrev pub stops_and_restarts : ℕ → List (ℕ × ℕ) → List Event
stops_and_restarts n [] = []
stops_and_restarts n (most ∷ more) = event.Stop n most.0 most.1 ∷ event.Restart n ∷ stops_and_restarts n more

-- the notes, as often
abbrev pub as_often : List (ℕ × ℕ) → List Note → List Note
as_often [] notes = []
as_often (most ∷ more) notes = notes ++ as_often more notes

-- The first world comes of a restart of the node in this one, and the last of such stops and restarts after that. What
-- may differ is its other file and what its device counts.
pub record IsTheSame (n : ℕ) (world first : WorldState ReplicaValue) (more : List (ℕ × ℕ))
    (last : WorldState ReplicaValue) : Type 0 where
  pub index : ℕ
  pub once : ReplicaValue
  pub again : ReplicaValue
  pub was_up : slice_get first.sim_nodes index ≡ Some (record { number = n; run_state = Up once })
  -- no other node has changed
  pub is_up : last.sim_nodes ≡ set first.sim_nodes index (record { number = n; run_state = Up again })
  -- the node is the same: its ballot and votes, and what it has learned and executed
  pub same_node : again.node ≡ once.node
  -- its live file has the same bytes
  pub same_file : again.store.live_disk ≡ once.store.live_disk
  -- and format 2, whatever a stop may leave of it
  pub format_two : (left : Memory) → IsLeftBy again left → ReadsFormatTwo left
  -- each restart executes again, and notes, what the first one did: the positions above the snapshot
  pub notes : List Note
  pub noted : first.trace ≡ world.trace ++ notes
  pub noted_again : last.trace ≡ first.trace ++ as_often more notes
  -- and nothing was sent
  pub nothing_sent : last.sent ≡ world.sent
