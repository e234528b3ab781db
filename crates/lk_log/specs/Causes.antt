-- Why a call of an open store failed, and which calls of the device were made.
use Rattle.std.specs.Prelude.{◌≡◌, ℕ, ◌+◌, ◌<◌, ◌≤◌, ◌⊎◌, Bool, true, false, List, [], ◌∷◌, Result, Ok, Err, IfErr}
use Rattle.std.specs.Prelude.{IsErrOf, if◌then◌else◌}
use Rattle.lk_types.specs.Limits.{max_count}
use Rattle.lk_disk.specs.Disk.{one_more}
use Rattle.lk_disk.specs.Meters.{CallsSucceed, Breaks}
use Rattle.lk_disk.specs.declared.meter.Meter.{Meter}
use Rattle.lk_log.specs.StoreValue.{StoreValue}
use Rattle.lk_log.specs.declared.fault.StoreFault.{StoreFault}
use Rattle.lk_log.specs.declared.fault.StoreFault.TheVariants.{Device, NoMemory, Failed}

-- the number of each error
abbrev pub number_of : StoreFault → ℕ
number_of Device = 7
number_of NoMemory = 8
number_of Failed = 11

-- the count of the device's failures after such an error: 7 exactly if a call of the device has failed
abbrev pub failures_after : StoreFault → ℕ → ℕ
failures_after Device n = one_more n
failures_after NoMemory n = n
failures_after Failed n = n

-- the count of the device's failures after a call with this result
abbrev pub FailuresRise : {T : Type 0} → ℕ → ℕ → Result T StoreFault → Type 0
FailuresRise before now (Ok _) = now ≡ before
FailuresRise before now (Err e) = now ≡ failures_after e before

-- the same of a call that fails only with 7 and 8
pub record IsCaused {T : Type 0} (before now : ℕ) (result : Result T StoreFault) : Type 0 where
  pub counted : FailuresRise before now result
  pub only : IfErr result (λ e. (e ≡ Device) ⊎ (e ≡ NoMemory))

-- ---- a store that has failed

-- only the device is the reason
abbrev pub IsOfDevice : StoreFault → Type 0
IsOfDevice e = e ≡ Device

-- the reason is the device, or a lack of memory
abbrev pub IsOfDeviceOrMemory : StoreFault → Type 0
IsOfDeviceOrMemory e = (e ≡ Device) ⊎ (e ≡ NoMemory)

-- it fails with `Failed`, and the store is unchanged
abbrev pub DoesNothing : {T : Type 0} → StoreValue → StoreValue → Result T StoreFault → Type 0
DoesNothing old new result = (new ≡ old) × IsErrOf result Failed

-- a store that has failed does nothing, and any other fails only for such a reason
abbrev pub RefusesFor : {T : Type 0} → (StoreFault → Type 0) → StoreValue → StoreValue → Result T StoreFault → Type 0
RefusesFor Reason old new result =
    (old.failed ≡ true → DoesNothing old new result) × (old.failed ≡ false → IfErr result Reason)

-- a store that has failed does nothing, nor does one at the last generation, and any other fails only for such a
-- reason
abbrev pub RefusesOrIsLast : {T : Type 0} → (StoreFault → Type 0) → StoreValue → StoreValue
    → Result T StoreFault → Type 0
RefusesOrIsLast Reason old new result =
    (old.failed ≡ true → DoesNothing old new result)
    × (max_count ≤ old.generation → DoesNothing old new result)
    × (old.failed ≡ false → old.generation < max_count → IfErr result Reason)

-- after the call the store has failed exactly if the call failed
abbrev pub FailsByRefusing : {T : Type 0} → StoreValue → Result T StoreFault → Type 0
FailsByRefusing new (Ok _) = new.failed ≡ false
FailsByRefusing new (Err e) = new.failed ≡ true

-- the same, except for a store at the last generation, which a failed call leaves unchanged
abbrev pub FailsUnlessLast : {T : Type 0} → StoreValue → StoreValue → Result T StoreFault → Type 0
FailsUnlessLast old new (Ok _) = new.failed ≡ false
FailsUnlessLast old new (Err e) = old.generation < max_count → new.failed ≡ true

-- ---- which calls of a metered device were made

-- this many changing calls passed, or one failed after some
abbrev pub ComesBy : {T E : Type 0} → Meter → Meter → ℕ → Result T E → Type 0
ComesBy m n k (Ok _) = CallsSucceed m n k
ComesBy m n k (Err _) = Breaks m n

-- a call of the device failed after some, or some passed and something else failed
abbrev pub IsRefusedBy : Meter → Meter → StoreFault → Type 0
IsRefusedBy m n Device = Breaks m n
IsRefusedBy m n NoMemory = (k : ℕ) × CallsSucceed m n k
IsRefusedBy m n Failed = (k : ℕ) × CallsSucceed m n k

-- this many changing calls passed, or it failed with this
abbrev pub IsMetered : {T : Type 0} → Meter → Meter → ℕ → Result T StoreFault → Type 0
IsMetered m n k (Ok _) = CallsSucceed m n k
IsMetered m n k (Err e) = IsRefusedBy m n e

-- one call if there is anything to write
abbrev pub calls_for : {X : Type 0} → List X → ℕ
calls_for [] = 0
calls_for (x ∷ xs) = 1

-- an append, if there are entries, and a sync, if asked to
abbrev pub put_calls : {X : Type 0} → List X → Bool → ℕ
put_calls entries sync = calls_for entries + (if sync then 1 else 0)

-- the other file is cut, the Base is appended and synced, and the old file is cut
abbrev pub rebase_calls : ℕ
rebase_calls = 4
