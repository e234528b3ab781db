-- Why no store was opened or read, and which calls of the device were made.
use Rattle.std.specs.Prelude.{◌≡◌, ℕ, ◌⊎◌, Result, Ok, Err, IfErr}
use Rattle.lk_disk.specs.Disk.{one_more}
use Rattle.lk_disk.specs.Meters.{CallsSucceed, Breaks}
use Rattle.lk_disk.specs.declared.meter.Meter.{Meter}
use Rattle.lk_log.specs.declared.fault.OpenFault.{OpenFault}
use Rattle.lk_log.specs.declared.fault.OpenFault.TheVariants.{Device, NoMemory, Damaged, WrongStore}

-- the number of each error
abbrev pub number_of : OpenFault → ℕ
number_of Device = 7
number_of NoMemory = 8
number_of Damaged = 9
number_of WrongStore = 10

-- the count of the device's failures after such an error: 7 exactly if a call of the device has failed
abbrev pub failures_after : OpenFault → ℕ → ℕ
failures_after Device n = one_more n
failures_after NoMemory n = n
failures_after Damaged n = n
failures_after WrongStore n = n

-- the count of the device's failures after a call with this result
abbrev pub FailuresRise : {T : Type 0} → ℕ → ℕ → Result T OpenFault → Type 0
FailuresRise before now (Ok _) = now ≡ before
FailuresRise before now (Err e) = now ≡ failures_after e before

-- the same of a call that fails only with 7 and 8
pub record IsCaused {T : Type 0} (before now : ℕ) (result : Result T OpenFault) : Type 0 where
  pub counted : FailuresRise before now result
  pub only : IfErr result (λ e. (e ≡ Device) ⊎ (e ≡ NoMemory))

-- a call of the device failed after some, or some passed and something else failed
abbrev pub IsRefusedBy : Meter → Meter → OpenFault → Type 0
IsRefusedBy m n Device = Breaks m n
IsRefusedBy m n NoMemory = (k : ℕ) × CallsSucceed m n k
IsRefusedBy m n Damaged = (k : ℕ) × CallsSucceed m n k
IsRefusedBy m n WrongStore = (k : ℕ) × CallsSucceed m n k

-- this many changing calls passed, or it failed with this
abbrev pub IsMetered : {T : Type 0} → Meter → Meter → ℕ → Result T OpenFault → Type 0
IsMetered m n k (Ok _) = CallsSucceed m n k
IsMetered m n k (Err e) = IsRefusedBy m n e
