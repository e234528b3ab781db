-- A restart always comes back: whatever a stop leaves of a node's files, no restart takes it for damage or for the
-- store of another node. It fails only when out of memory, at a call of the device that failed, or for a file of format
-- 1, which no current node writes, whose generation is the last, so that it cannot be written anew.
--
-- That what a crash may leave is what recovery takes: Chen et al., Using Crash Hoare Logic for Certifying the FSCQ File
-- System, 2015.
use Rattle.std.specs.Prelude.{◌≡◌, ℕ, ◌⊎◌, Some, None, Err, Contains}
use Rattle.lk_disk.specs.Disk.{Disk}
use Rattle.lk_memory_disk.specs.Memory.{Memory, disk_of}
use Rattle.lk_disk.specs.Meters.{Breaks, CallsSucceed}
use Rattle.lk_disk.specs.declared.device.Side.{Side}
use Rattle.lk_disk.specs.declared.meter.Meter.{Meter}
use Rattle.lk_disk.specs.declared.trap.Trap.TheVariants.{Off}
use Rattle.lk_log.specs.Images.{seen}
use Rattle.lk_locks.specs.Meaning.{table_meaning}
use Rattle.lk_locks.specs.Packed.{IsTableText}
use Rattle.lk_node.specs.Leavings.{header_of}
use Rattle.lk_recovery.specs.Revivals.{IsLastOld}
use Rattle.lk_replica.specs.ReplicaValue.{ReplicaValue}
use Rattle.lk_replica.specs.Revived.{RevivesTo}
use Rattle.lk_sim.specs.WorldStates.{WorldState}
use Rattle.lk_sim_nodes.specs.declared.end.End.TheVariants.{Fault, Stopped}
use Rattle.lk_sim.specs.declared.event.Event.TheVariants as event
use Rattle.lk_sim_nodes.specs.declared.refused.Refused.{Refused}
use Rattle.lk_sim_nodes.specs.declared.refused.Refused.TheVariants.{WorldMemory}
use Rattle.lk_sim_nodes.specs.declared.sim_node.RunState.TheVariants.{Down}
use Rattle.lk_guarantees.specs.Events.{IsDone, IsRefused, IsUp}

-- a refusal with the fault of this number, of a restart from these disks, is excused
abbrev pub IsExcused : (Side → Disk) → ℕ → Type 0
IsExcused disks number = (number ≡ 7) ⊎ (number ≡ 8) ⊎ ((number ≡ 11) × IsLastOld (seen disks))

-- A restart from this device failed with the fault of this number, and left that device: that is excused. It is 7
-- exactly if a call of the device failed: the one at which its trap, its fuse or an armed stop was due, a read that had
-- to fail, or one that ran out of memory.
pub record IsExcusedOn (device left : Memory) (number : ℕ) : Type 0 where
  pub excused : IsExcused (disk_of device) number
  pub failed : number ≡ 7 → Breaks device.meter left.meter
  pub succeeded : (number ≡ 7 → ⊥) → (k : ℕ) × CallsSucceed device.meter left.meter k

-- ---- in a world

-- nothing makes a call of the device fail
abbrev pub IsQuiet : Meter → Type 0
IsQuiet meter = (meter.trap ≡ Off) × (meter.fuse ≡ None) × (meter.unread ≡ 0)

-- the node that restarted from this device is up; or it has ended with fault 7, as a call of the device failed; or, if
-- something makes one fail, at an armed stop; or, if its file has format 1 and no generation is left, with fault 11
abbrev pub IsBack : ℕ → Memory → WorldState ReplicaValue → Type 0
IsBack n device new =
    IsUp new.sim_nodes n
    ⊎ ((new.ended ≡ Some (Fault n 7)) × ((left : Memory) × Breaks device.meter left.meter))
    ⊎ ((new.ended ≡ Some (Stopped n)) × (IsQuiet device.meter → ⊥))
    ⊎ ((new.ended ≡ Some (Fault n 11)) × IsLastOld (seen (disk_of device)))

-- a restart of each node that is down, on whatever device, comes back
pub record ComesBack (world : WorldState ReplicaValue) : Type 0 where
  -- whatever its contract lets it come to from this device, a failure is excused
  pub excused : (n : ℕ) (device : Memory) → Contains world.sim_nodes (record { number = n; run_state = Down device })
      → (number : ℕ) (left : Memory)
      → RevivesTo table_meaning IsTableText device (header_of world.genesis n) (Err (number, left))
      → IsExcusedOn device left number
  -- a Restart is refused for nothing but memory
  pub refused : (n : ℕ) (device : Memory) → Contains world.sim_nodes (record { number = n; run_state = Down device })
      → (why : Refused) (new : WorldState ReplicaValue) → IsRefused world (event.Restart n) why new → why ≡ WorldMemory
  -- and if it is done, the node is back
  pub back : (n : ℕ) (device : Memory) → Contains world.sim_nodes (record { number = n; run_state = Down device })
      → (new : WorldState ReplicaValue) → IsDone world (event.Restart n) new → IsBack n device new
