-- The run of a node in a process, from its start to its end, as moves of the node.
use Rattle.std.specs.Prelude.{◌≡◌, ℕ, List, [], ◌∷◌, ◌++◌}
use Rattle.std.proofs.Common.{inl, inr, refl}
use Rattle.lk_types.specs.declared.genesis.Genesis.{Genesis}
use Rattle.lk_disk.specs.Disk.{Disk, after_stop}
use Rattle.lk_disk.specs.declared.device.Side.{Side}
use Rattle.lk_memory_disk.specs.Memory.{Memory, disk_of}
use Rattle.lk_locks.specs.Meaning.{table_meaning}
use Rattle.lk_locks.specs.Packed.{IsTableText}
use Rattle.lk_node.specs.Leavings.{header_of}
use Rattle.lk_replica.specs.ReplicaValue.{ReplicaValue}
use Rattle.lk_server.specs.Servers.{ServerValue}
use Rattle.lk_program_fault.specs.declared.fault.ProgramFault.{ProgramFault}
use Rattle.lk_transport.specs.Chains.{Chain}
use Rattle.lk_node_process.specs.Revivals.{IsServerStarted, IsRefusedWith, StartsOn, Surroundings}
use Rattle.lk_node_process.specs.Turns.{DoesTurn, EndsTurn, EndsByStranger, RunsTurns, EndsEarly, EndsEarlyByStranger}
use Rattle.lk_sim_nodes.specs.declared.sim_node.RunState.TheVariants.{Up, Down}
use Rattle.lk_cluster_theorems.specs.Clusters.{Cluster, Network, IsReachable, server_disks}
use Rattle.lk_cluster_theorems.specs.Continuing.{HasNode}
use Rattle.lk_cluster_theorems.specs.Processes.{SaysIfHonest, Move}

-- `May` says what the network may bring, `Metered` that the devices count their calls, and `observable` that the
-- sockets reveal what they send
module _ (May : Network) (Metered observable : Type 0) where
  -- it holds of each node that is down in a reachable cluster, with the disks that its device has
  abbrev pub ForEachDown : (Genesis → Cluster → ℕ → ℕ → (Side → Disk) → Type 0) → Type 0
  ForEachDown Holds =
      (genesis : Genesis) (cluster : Cluster) → IsReachable May Metered observable genesis cluster
      → (index n : ℕ) (device : Memory) → HasNode cluster index n (Down device)
      → (disks : Side → Disk) → ((s : Side) → disk_of device s ≡ disks s)
      → Holds genesis cluster index n disks

  -- it holds of each node that is up in a reachable cluster, as that server
  abbrev pub ForEachUp : (Genesis → Cluster → ℕ → ℕ → ServerValue ReplicaValue → Type 0) → Type 0
  ForEachUp Holds =
      (genesis : Genesis) (cluster : Cluster) → IsReachable May Metered observable genesis cluster
      → (index n : ℕ) (server : ServerValue ReplicaValue) → HasNode cluster index n (Up server)
      → Holds genesis cluster index n server

-- `Honest` says that the device is honest. The node of this number in a cluster of this genesis is at that place, and
-- was down on a device with these disks
module _ (Metered observable Honest : Type 0) (genesis : Genesis) (n : ℕ) (disks : Side → Disk) where
  -- the node was taken up from them
  abbrev pub StartsFrom : ServerValue ReplicaValue → Type 0
  StartsFrom = IsServerStarted table_meaning Honest disks (header_of genesis n)

  -- the same, with what else the program was given: the pace, the hosts, the keys and the socket
  abbrev pub StartsWith : Surroundings → ServerValue ReplicaValue → Type 0
  StartsWith given = StartsOn table_meaning Honest disks (header_of genesis n) given

  -- it was not, for this fault, and its device has been left with these disks
  abbrev pub RefusedStart : ProgramFault → (Side → Disk) → Type 0
  RefusedStart told rests = IsRefusedWith table_meaning IsTableText Honest disks (header_of genesis n) told rests

  -- it was, has done this many turns, and is this server when the program returns
  abbrev pub NodeRun : Surroundings → ℕ → ServerValue ReplicaValue → Type 0
  NodeRun given count ended =
      RunsTurns (StartsWith given) (SaysIfHonest Metered Honest) observable count ended

  -- it has done fewer, and then one that ended its replica
  abbrev pub BrokenNodeRun : Surroundings → ℕ → ServerValue ReplicaValue → Type 0
  BrokenNodeRun given most ended =
      EndsEarly (StartsWith given) (SaysIfHonest Metered Honest) observable most ended

  -- it has done fewer, and then one after which it ended, since it had followed a node of another genesis
  abbrev pub LedNodeRun : Surroundings → ℕ → ServerValue ReplicaValue → Type 0
  LedNodeRun given most ended =
      EndsEarlyByStranger (StartsWith given) (SaysIfHonest Metered Honest) observable most ended

  module _ (index : ℕ) where
    -- turns, one after another
    abbrev pub turn_moves : (first : ServerValue ReplicaValue) (states : List (ServerValue ReplicaValue))
        (last : ServerValue ReplicaValue) → Chain (DoesTurn (SaysIfHonest Metered Honest) observable) first states last
        → List (Move Metered observable Honest genesis)
    turn_moves first [] last turns = []
    turn_moves first (next ∷ states) last turns =
        record {
          index = index;
          number = n;
          before = Up first;
          after = Up next;
          does = inr (inr (inl (record { server = first; was = refl; after = next; turn = turns.0; up = refl })));
        } ∷ turn_moves next states last turns.1

    -- a turn that ended the replica, and left this
    abbrev pub end_move : (last ended : ServerValue ReplicaValue)
        → EndsTurn (SaysIfHonest Metered Honest) observable last ended → (left : Memory)
        → ((s : Side) → disk_of left s ≡ server_disks ended s) → Move Metered observable Honest genesis
    end_move last ended turn left leaves =
        record {
          index = index;
          number = n;
          before = Up last;
          after = Down left;
          does = inr (inr (inr (inr (inl (record {
            server = last;
            was = refl;
            after = ended;
            frames = turn.frames;
            came = turn.came;
            opened = turn.opened;
            turn = turn.turn;
            failure = turn.failure;
            left = left;
            leaves = leaves;
            down = refl;
          })))));
        }

    -- a turn after which it had followed a node of another genesis
    abbrev pub led_move : (last ended : ServerValue ReplicaValue)
        → EndsByStranger (SaysIfHonest Metered Honest) observable last ended → Move Metered observable Honest genesis
    led_move last ended turn =
        record {
          index = index;
          number = n;
          before = Up last;
          after = Up ended;
          does = inr (inr (inr (inl (record { server = last; was = refl; after = ended; turn = turn; up = refl }))));
        }

    -- its process ended between turns, and left this, as after a stop
    abbrev pub stop_move : (ended : ServerValue ReplicaValue) (left : Memory)
        → ((s : Side) → (k : ℕ) × (disk_of left s ≡ after_stop k (server_disks ended s)))
        → Move Metered observable Honest genesis
    stop_move ended left kept =
        record {
          index = index;
          number = n;
          before = Up ended;
          after = Down left;
          does = inr (inr (inr (inr (inr (record {
            left = left;
            down = refl;
            kept = kept;
          })))));
        }

    module _ (device : Memory) (same : (s : Side) → disk_of device s ≡ disks s) where
      -- its start
      abbrev pub start_move : (server : ServerValue ReplicaValue) → StartsFrom server
          → Move Metered observable Honest genesis
      start_move server starts_as =
          record {
            index = index;
            number = n;
            before = Down device;
            after = Up server;
            does = inl (record {
              device = device;
              was = refl;
              disks = disks;
              same = same;
              server = server;
              starts_as = starts_as;
              up = refl;
            });
          }

      -- the moves of each run
      abbrev pub run_moves : {given : Surroundings} {count : ℕ} {ended : ServerValue ReplicaValue}
          → NodeRun given count ended → List (Move Metered observable Honest genesis)
      run_moves {ended = ended} r =
          start_move r.started r.starts_as.started ∷ turn_moves r.started r.turns.states ended r.turns.chain

      abbrev pub broken_run_moves : {given : Surroundings} {most : ℕ} {ended : ServerValue ReplicaValue}
          (r : BrokenNodeRun given most ended) (left : Memory)
          → ((s : Side) → disk_of left s ≡ server_disks ended s) → List (Move Metered observable Honest genesis)
      broken_run_moves {ended = ended} r left leaves =
          start_move r.started r.starts_as.started
          ∷ (turn_moves r.started r.breaks.turns.states r.breaks.last r.breaks.turns.chain
          ++ end_move r.breaks.last ended r.breaks.ends left leaves ∷ [])

      abbrev pub led_run_moves : {given : Surroundings} {most : ℕ} {ended : ServerValue ReplicaValue}
          (r : LedNodeRun given most ended) (left : Memory)
          → ((s : Side) → (k : ℕ) × (disk_of left s ≡ after_stop k (server_disks ended s)))
          → List (Move Metered observable Honest genesis)
      led_run_moves {ended = ended} r left kept =
          start_move r.started r.starts_as.started
          ∷ (turn_moves r.started r.leaves.turns.states r.leaves.last r.leaves.turns.chain
          ++ led_move r.leaves.last ended r.leaves.leave ∷ stop_move ended left kept ∷ [])

      -- a refused start, which left this
      abbrev pub refused_moves : {told : ProgramFault} {rests : Side → Disk} (refused : RefusedStart told rests)
          (left : Memory) → ((s : Side) → disk_of left s ≡ rests s) → List (Move Metered observable Honest genesis)
      refused_moves {told = told} {rests = rests} refused left leaves =
          record {
            index = index;
            number = n;
            before = Down device;
            after = Down left;
            does = inr (inl (record {
              device = device;
              was = refl;
              disks = disks;
              same = same;
              told = told;
              rests = rests;
              refused = refused;
              left = left;
              leaves = leaves;
              down = refl;
            }));
          } ∷ []
