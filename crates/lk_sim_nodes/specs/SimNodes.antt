-- The nodes of a world.
use Rattle.std.specs.Prelude.{◌≡◌, ℕ, ◌<◌, ◌⊎◌, Option, Some, None, List, length, get_or}
use Rattle.lk_disk.specs.Disk.{Disk}
use Rattle.lk_memory_disk.specs.Memory.{Memory, disk_of, stopped}
use Rattle.lk_disk.specs.Meters.{trapped, disarmed}
use Rattle.lk_disk.specs.declared.device.Side.{Side}
use Rattle.lk_disk.specs.declared.trap.Trap.{Trap}
use Rattle.lk_disk.specs.declared.trap.Trap.TheVariants.{Off}
use Rattle.lk_state.specs.Meanings.{Meaning}
use Rattle.lk_agreement_laws.specs.Nodes.{PaxosState}
use Rattle.lk_node_interface.specs.declared.note.Note.{Note}
use Rattle.lk_node.specs.Histories.{History, Genesis, Datagram}
use Rattle.lk_node.specs.Calls.{LeavesFit}
use Rattle.lk_node.specs.Holdings.{Holding, HoldingFits}
use Rattle.lk_node.specs.Leavings.{DisksFit}
use Rattle.lk_replica.specs.Behaviours.{Behaviour}
use Rattle.lk_sim_nodes.specs.Rooms.{AreShort}
use Rattle.lk_sim_nodes.specs.declared.sim_node.SimNode.{SimNode}
use Rattle.lk_sim_nodes.specs.declared.sim_node.RunState.{RunState}
use Rattle.lk_sim_nodes.specs.declared.sim_node.RunState.TheVariants.{Up, Down}

-- it is at this place
abbrev pub At : {X : Type 0} → List X → ℕ → X → Type 0
At xs k x = (k < length xs) × (get_or xs k x ≡ x)

-- the node of this number was started, and is in this state
abbrev pub Sits : {R : Type 0} → List (SimNode R) → ℕ → RunState R → Type 0
Sits {R = R} sim_nodes number run_state =
    (k : ℕ) × (s : SimNode R) × At sim_nodes k s × (s.number ≡ number) × (s.run_state ≡ run_state)

abbrev pub IsStarted : {R : Type 0} → List (SimNode R) → ℕ → Type 0
IsStarted {R = R} sim_nodes number = (run_state : RunState R) × Sits sim_nodes number run_state

abbrev pub IsUp : {R : Type 0} → List (SimNode R) → ℕ → Type 0
IsUp {R = R} sim_nodes number = (r : R) × Sits sim_nodes number (Up r)

abbrev pub IsDown : {R : Type 0} → List (SimNode R) → ℕ → Type 0
IsDown {R = R} sim_nodes number = (d : Memory) × Sits sim_nodes number (Down d)

-- no node of this number was ever started
abbrev pub HasNo : {R : Type 0} → List (SimNode R) → ℕ → Type 0
HasNo {R = R} sim_nodes number = (k : ℕ) (s : SimNode R) → At sim_nodes k s → s.number ≡ number → ⊥

-- ---- the device of a node that is down

-- a stop that keeps up to this many unsynced bytes of each disk has left it, and nothing is pending
abbrev pub stopped_on : ℕ → ℕ → Memory → Memory
stopped_on x y m = record (stopped x y m) { meter = trapped Off (disarmed m.meter) }

-- a fault has left it unchanged, and no trap is pending
abbrev pub fallen_on : Memory → Memory
fallen_on m = record m { meter = trapped Off m.meter }

-- a fault has left it; or, if the node has reached an armed stop for this many bytes, that stop has
abbrev pub rested_on : Option ℕ → Memory → Memory
rested_on None m = fallen_on m
rested_on (Some bytes) m = stopped_on bytes bytes m

-- the device of a node, up or down
abbrev pub device_in : {R : Type 0} → Behaviour R → RunState R → Memory
device_in b (Up r) = b.memory r
device_in b (Down d) = d

-- its disks
abbrev pub disks_of : {R : Type 0} → (R → Side → Disk) → RunState R → Side → Disk
disks_of disks (Up r) = disks r
disks_of disks (Down d) = disk_of d

-- a trap was set at the device of the node, and nothing else changed
abbrev pub IsTrapped : {R : Type 0} → Behaviour R → SimNode R → SimNode R → Trap → Type 0
IsTrapped {R = R} b s t trap =
    ((r : R) × (s.run_state ≡ Up r) × (t.run_state ≡ Up (b.with_trap trap r)))
    ⊎ ((d : Memory) × (s.run_state ≡ Down d) × (t.run_state ≡ Down (record d { meter = trapped trap d.meter })))

-- ---- how a node fits what has happened

-- a replica that is up holds this state and what fits, and so does whatever a stop may leave of it; its files are short
pub record UpFits {R : Type 0} (Shows : R → Genesis → ℕ → Holding → Type 0) (disks : R → Side → Disk) (m : Meaning)
    (h : History) (w : PaxosState) (n : ℕ) (r : R) : Type 0 where
  pub holding : Holding
  pub paxos : holding.paxos ≡ w
  pub shown : Shows r h.genesis n holding
  pub fits : HoldingFits m h n holding
  pub left : DisksFit m h n (disks r)
  pub room : AreShort (disks r)

-- a node is up like this, or its disks fit
pub record SimNodeFits {R : Type 0} (Shows : R → Genesis → ℕ → Holding → Type 0) (disks : R → Side → Disk) (m : Meaning)
    (h : History) (w : PaxosState) (s : SimNode R) : Type 0 where
  pub up : (r : R) → s.run_state ≡ Up r → UpFits Shows disks m h w s.number r
  pub down : (d : Memory) → s.run_state ≡ Down d → DisksFit m h s.number (disk_of d)
  pub room : (d : Memory) → s.run_state ≡ Down d → AreShort (disk_of d)

-- a node has started, or gone on
pub record SimNodeGoes {R : Type 0} (Shows : R → Genesis → ℕ → Holding → Type 0) (disks : R → Side → Disk) (m : Meaning)
    (h : History) (s : SimNode R) (notes : List Note) (batch : List Datagram) : Type 0 where
  pub replica : R
  pub up : s.run_state ≡ Up replica
  pub goes : LeavesFit m h s.number (Shows replica h.genesis s.number) (disks replica) notes batch
  pub room : AreShort (disks replica)

-- ---- where a node is

-- the node of this number is at this place
abbrev pub IsSeatOf : {R : Type 0} → List (SimNode R) → ℕ → ℕ → Type 0
IsSeatOf {R = R} sim_nodes i number = (s : SimNode R) × At sim_nodes i s × (s.number ≡ number)

-- and is up
abbrev pub IsUpAt : {R : Type 0} → List (SimNode R) → ℕ → ℕ → Type 0
IsUpAt {R = R} sim_nodes i number =
    (s : SimNode R) × (r : R) × At sim_nodes i s × (s.number ≡ number) × (s.run_state ≡ Up r)

-- and is down
abbrev pub IsDownAt : {R : Type 0} → List (SimNode R) → ℕ → ℕ → Type 0
IsDownAt {R = R} sim_nodes i number =
    (s : SimNode R) × (d : Memory) × At sim_nodes i s × (s.number ≡ number) × (s.run_state ≡ Down d)
