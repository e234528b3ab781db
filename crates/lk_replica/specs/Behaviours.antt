-- The results of a replica's calls, as a world of replicas sees them.
use Rattle.std.specs.Prelude.{◌≡◌, ℕ, List, Result}
use Rattle.lk_disk.specs.Disk.{Disk}
use Rattle.lk_memory_disk.specs.Memory.{Memory, disk_of}
use Rattle.lk_disk.specs.Meters.{trapped}
use Rattle.lk_disk.specs.declared.device.Side.{Side}
use Rattle.lk_disk.specs.declared.trap.Trap.{Trap}
use Rattle.lk_store_format.specs.Values.{HeaderValue}
use Rattle.lk_node_interface.specs.declared.input.Input.{Input}
use Rattle.lk_node_interface.specs.declared.note.Note.{Note}
use Rattle.lk_node.specs.Histories.{Datagram}

-- a replica took this input, and became another: with its notes and what it sent, or with the number of a fault
abbrev pub Taking : Type 0 → Type 1
Taking R = R → Input → R → Result (List Note × List Datagram) ℕ → Type 0

-- a replica took these together, and became another: with the notes and the datagrams of each step, or with the number
-- of a fault
abbrev pub TakingAll : Type 0 → Type 1
TakingAll R = R → List Input → R → Result (List (List Note × List Datagram)) ℕ → Type 0

-- a node of this header restarted from this device: with its notes, or with the number of a fault and the device that
-- this left
abbrev pub Reviving : Type 0 → Type 1
Reviving R = Memory → HeaderValue → Result (R × List Note) (ℕ × Memory) → Type 0

-- a replica was to compact and became another: it did, or there is the number of a fault
abbrev pub Compacting : Type 0 → Type 1
Compacting R = R → R → Result (Unit {0}) ℕ → Type 0

-- the device of a kind of replica, and the results of its calls
pub record Behaviour (R : Type 0) : Type 1 where
  -- its device, two disks in memory
  pub memory : R → Memory
  -- the same replica, with this trap set at its device
  pub with_trap : Trap → R → R
  -- The first replica, given this input, becomes the second by one call of `take`, which returns these notes and sends
  -- these datagrams in order, and does nothing else, or fails with the fault of this number.
  pub Takes : Taking R
  -- The first replica, given these, becomes the second by one call of `take_all`, whose steps return these notes and
  -- send these datagrams in order, and does nothing else, or fails with the fault of this number.
  pub TakesAll : TakingAll R
  -- A restart from this device, for a node of this header, makes this replica and returns these notes, or fails with
  -- the fault of this number and leaves that device.
  pub Revives : Reviving R
  -- The first replica becomes the second by one call of `compact`, which succeeds, or fails with the fault of this
  -- number.
  pub Compacts : Compacting R

-- a trap belongs to the device, and changes nothing else of it
abbrev pub TrapsAlone : {R : Type 0} → Behaviour R → Type 0
TrapsAlone {R = R} b =
    (t : Trap) (r : R) → b.memory (b.with_trap t r) ≡ record (b.memory r) { meter = trapped t (b.memory r).meter }

-- the disks of its device
abbrev pub disks_by : {R : Type 0} → Behaviour R → R → Side → Disk
disks_by b r = disk_of (b.memory r)
