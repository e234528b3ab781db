-- How a node starts, and why it does not.
use Rattle.std.specs.Prelude.{◌≡◌, ◌≤◌, ℕ, false, List, []}
use Rattle.lk_types.specs.Limits.{max_base_of}
use Rattle.lk_disk.specs.Disk.{Disk}
use Rattle.lk_disk.specs.declared.device.Side.{Side}
use Rattle.lk_store_format.specs.Values.{HeaderValue}
use Rattle.lk_log.specs.Rooms.{StaysWithin}
use Rattle.lk_log.specs.StoreValue.{disks}
use Rattle.lk_state.specs.Meanings.{Meaning}
use Rattle.lk_node_interface.specs.declared.note.Note.{Note}
use Rattle.lk_node.specs.Calls.{LeavesFit}
use Rattle.lk_node.specs.Histories.{History, IsLawful}
use Rattle.lk_node.specs.Keeping.{ReplicaHolds}
use Rattle.lk_node.specs.Leavings.{header_of, DisksFit}
use Rattle.lk_node_interface.specs.Faults.{fault_number, IsNumberOfRevival}
use Rattle.lk_replica.specs.ReplicaValue.{ReplicaValue}
use Rattle.lk_replica.specs.Revived.{MayGoOn}
use Rattle.lk_recovery.specs.Revivals.{IsRefusedFor}
use Rattle.lk_node_interface.specs.declared.fault.ReplicaFault.{ReplicaFault}
use Rattle.lk_program_fault.specs.Faults.{replica_fault}
use Rattle.lk_program_fault.specs.declared.fault.ProgramFault.{ProgramFault}
use Rattle.lk_address_book.specs.declared.network.Network.{Network}
use Rattle.lk_pacing.specs.declared.pace.Pace.{Pace}
use Rattle.lk_server.specs.Servers.{ServerValue, IsConfiguredAs, HasSocket}
use Rattle.lk_node_setup.specs.KeysOfNode.{AreSealsOf}
use Rattle.lk_node_setup.specs.SelfProbes.{SocketValue}

-- a replica of this header restarts from what these disks have: it goes on in each history that they fit, and its
-- files have not grown, except up to the size of a Base of this alpha
pub record ComesUp (m : Meaning) (header : HeaderValue) (old : Side → Disk) (r : ReplicaValue) : Type 0 where
  pub notes : List Note
  pub goes : (h : History) (n : ℕ) → header ≡ header_of h.genesis n → IsLawful m h → DisksFit m h n old
      → LeavesFit m h n (ReplicaHolds m r.node r.store h.genesis n) (disks r.store) notes []
  pub room : StaysWithin (max_base_of header.alpha) old (disks r.store)

-- no replica restarts from what these disks had, and they are left like this: whatever a stop may leave of them fits
-- each history that they fitted, and the files have not grown, except up to the size of a Base of this alpha
pub record StaysDown (m : Meaning) (header : HeaderValue) (old left : Side → Disk) : Type 0 where
  pub fits : (h : History) (n : ℕ) → header ≡ header_of h.genesis n → IsLawful m h
      → DisksFit m h n old → DisksFit m h n left
  pub room : StaysWithin (max_base_of header.alpha) old left

-- `honest` says that the device that had these disks is honest
module _ (m : Meaning) (honest : Type 0) (old : Side → Disk) (header : HeaderValue) where
  -- it is the server of the node of this header, in its cluster, with a replica that can take calls as that node and
  -- restarts from what the device had. Nothing has arrived, and no envelope of the node to itself is waiting
  pub record IsServerStarted (s : ServerValue ReplicaValue) : Type 0 where
    pub cluster : s.cluster ≡ header.cluster
    pub node : s.node ≡ header.node
    pub ready : MayGoOn header s.replica
    pub comes_up : honest → ComesUp m header old s.replica
    pub alive : s.failed ≡ false
    pub loopback : s.loopback ≡ []
    pub received : s.received ≡ 0

-- what a node is given beside the device of its store: what its ticks go by, the hosts and the keys, and its socket, as
-- that is then
pub record Surroundings : Type 0 where
  pub pace : Pace
  pub network : Network
  pub socket : SocketValue

-- these together
abbrev pub surroundings : Pace → Network → SocketValue → Surroundings
surroundings p known s = record { pace = p; network = known; socket = s }

-- it is such a server, with this pace, these hosts and these keys, which are those of its node, and on this socket, on
-- which nothing was sent or received before it started
pub record StartsOn (m : Meaning) (honest : Type 0) (old : Side → Disk) (header : HeaderValue) (given : Surroundings)
    (s : ServerValue ReplicaValue) : Type 0 where
  pub started : IsServerStarted m honest old header s
  pub configured : IsConfiguredAs header.cluster header.node given.pace given.network s
  pub whose : AreSealsOf header given.network.seals
  pub socket : HasSocket given.socket.sent given.socket.failures given.socket.incoming s

module _ (m : Meaning) (IsText : List ℕ → Type 0) (honest : Type 0) (old : Side → Disk) (header : HeaderValue) where
  -- the restart from what the device had failed with the fault of this number, and the device now has these disks,
  -- which fit as those did. The faults for damage, for another's store and for a store at its last generation have
  -- exactly that cause, and disks that fit a history have neither damage nor another's store
  pub record IsRestartRefused (number : ℕ) (left : Side → Disk) : Type 0 where
    pub among : (7 ≤ number) × (number ≤ 11)
    pub cause : honest → IsRefusedFor m IsText old header number left
    pub stays_down : honest → StaysDown m header old left
    pub comes_back : honest → (h : History) (n : ℕ) → header ≡ header_of h.genesis n → IsLawful m h
        → DisksFit m h n old → IsNumberOfRevival number

  -- the restart failed, this fault reports it, and the device now has these disks
  pub record IsRefusedWith (told : ProgramFault) (left : Side → Disk) : Type 0 where
    pub fault : ReplicaFault
    pub is : told ≡ replica_fault fault
    pub refused : IsRestartRefused (fault_number fault) left

  -- the same, and the socket is as it was given: nothing was sent on it and nothing received
  pub record RestsOn (given : Surroundings) (told : ProgramFault) (left : Side → Disk)
      (socket : SocketValue) : Type 0 where
    pub refused : IsRefusedWith told left
    pub untouched : socket ≡ given.socket
