-- The numbers of a replica's errors, and of those that its store reports.
use Rattle.std.specs.Prelude.{◌≡◌, ℕ, ◌==◌, ◌⊎◌, List, Result, Ok, Err, Vec, MatchBool, MatchResult, if◌then◌else◌}
use Rattle.std.specs.Global.{Global}
use Rattle.lk_disk.specs.Disk.{one_more}
use Rattle.lk_disk.specs.Meters.{CallsSucceed, Breaks}
use Rattle.lk_disk.specs.declared.meter.Meter.{Meter}
use Rattle.lk_log.specs.declared.fault.StoreFault.{StoreFault}
use Rattle.lk_log.specs.declared.fault.StoreFault.TheVariants as store
use Rattle.lk_log.specs.declared.fault.OpenFault.{OpenFault}
use Rattle.lk_log.specs.declared.fault.OpenFault.TheVariants as opening
use Rattle.lk_state.specs.declared.machine.UnpackFault.{UnpackFault}
use Rattle.lk_state.specs.declared.machine.UnpackFault.TheVariants as unpack
use Rattle.lk_node_interface.specs.declared.note.Note.{Note}
use Rattle.lk_node_interface.specs.declared.fault.ReplicaFault.{ReplicaFault}
use Rattle.lk_node_interface.specs.declared.fault.ReplicaFault.TheVariants as fault

abbrev pub fault_number : ReplicaFault → ℕ
fault_number fault.Device = 7
fault_number fault.NoMemory = 8
fault_number fault.Damaged = 9
fault_number fault.WrongStore = 10
fault_number fault.Failed = 11
fault_number fault.Halted = 14
fault_number (fault.Send notes) = 15

-- the count of the device's failures after an error of this number: 7 exactly if a call of the device has failed
abbrev pub failures_by : ℕ → ℕ → ℕ
failures_by number n = if number == 7 then one_more n else n

-- the same of a call
abbrev pub CountsFailures : {T : Type 0} → ℕ → ℕ → Result T ReplicaFault → Type 0
CountsFailures before now (Ok _) = now ≡ before
CountsFailures before now (Err e) = now ≡ failures_by (fault_number e) before

-- the calls of a metered device before an error of this number: one has failed, or all have succeeded
abbrev pub RefusedAfter : ℕ → Meter → Meter → Type 0
RefusedAfter number m n = MatchBool (number == 7) (Breaks m n) ((k : ℕ) × CallsSucceed m n k)

-- this many succeeded, or it failed with this
abbrev pub SucceedsOr : {T : Type 0} → Meter → Meter → ℕ → Result T ReplicaFault → Type 0
SucceedsOr m n k r = MatchResult r (λ _. CallsSucceed m n k) (λ e. RefusedAfter (fault_number e) m n)

-- an error of the store is one of the replica
abbrev pub fault_of : StoreFault → ReplicaFault
fault_of store.Device = fault.Device
fault_of store.NoMemory = fault.NoMemory
fault_of store.Failed = fault.Failed

-- and so is one of its opening
abbrev pub open_fault : OpenFault → ReplicaFault
open_fault opening.Device = fault.Device
open_fault opening.NoMemory = fault.NoMemory
open_fault opening.Damaged = fault.Damaged
open_fault opening.WrongStore = fault.WrongStore

-- a snapshot that does not unpack is damage
abbrev pub unpack_fault : UnpackFault → ReplicaFault
unpack_fault unpack.NotPacked = fault.Damaged
unpack_fault unpack.NoMemory = fault.NoMemory

-- a call that takes an input, or writes a snapshot, fails with one of these: only a restart reports damage and
-- another's store
abbrev pub IsOfCalls : ReplicaFault → Type 0
IsOfCalls fault.Device = Unit {0}
IsOfCalls fault.NoMemory = Unit {0}
IsOfCalls fault.Damaged = ⊥
IsOfCalls fault.WrongStore = ⊥
IsOfCalls fault.Failed = Unit {0}
IsOfCalls fault.Halted = Unit {0}
IsOfCalls (fault.Send notes) = Unit {0}

-- the device has failed, memory ran out, or it failed earlier
abbrev pub IsStoreFault : ℕ → Type 0
IsStoreFault number = (number ≡ 7) ⊎ (number ≡ 8) ⊎ (number ≡ 11)

-- the same by their numbers
abbrev pub IsNumberOfCalls : ℕ → Type 0
IsNumberOfCalls number = (number ≡ 7) ⊎ (number ≡ 8) ⊎ (number ≡ 11) ⊎ (number ≡ 14) ⊎ (number ≡ 15)

-- a restart from disks that fit fails with one of these: such disks are neither damaged nor another's
abbrev pub IsNumberOfRevival : ℕ → Type 0
IsNumberOfRevival number = (number ≡ 7) ⊎ (number ≡ 8) ⊎ (number ≡ 11)

-- the device has failed, or the store failed earlier, or it has no generation left: an error other than out of memory
abbrev pub WantsNoMemory : ℕ → Type 0
WantsNoMemory number = (number ≡ 7) ⊎ (number ≡ 11)

-- if no call of the device has failed and no datagram was lost, this holds
abbrev pub IfSpared : Type 0 → ReplicaFault → Type 0
IfSpared P fault.Device = Unit {0}
IfSpared P fault.NoMemory = P
IfSpared P fault.Damaged = P
IfSpared P fault.WrongStore = P
IfSpared P fault.Failed = P
IfSpared P fault.Halted = P
IfSpared P (fault.Send notes) = Unit {0}

-- if a datagram was not sent, the notes of the call have this property
abbrev pub IfSend : (List Note → Type 0) → ReplicaFault → Type 0
IfSend P fault.Device = Unit {0}
IfSend P fault.NoMemory = Unit {0}
IfSend P fault.Damaged = Unit {0}
IfSend P fault.WrongStore = Unit {0}
IfSend P fault.Failed = Unit {0}
IfSend P fault.Halted = Unit {0}
IfSend P (fault.Send notes) = P notes.items

-- if a call goes on, at Ok or with a lost datagram, its notes have this property
abbrev pub IfGoesOn : Result (Vec Note Global) ReplicaFault → (List Note → Type 0) → Type 0
IfGoesOn r P = MatchResult r (λ notes. P notes.items) (IfSend P)
