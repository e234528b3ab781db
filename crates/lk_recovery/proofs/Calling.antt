-- Which calls of a device are made.
use Rattle.std.proofs.Common.{ℕ, ◌+◌, ◌==◌, ◌≡◌, Bool, true, false, Result, Ok, Err, IsErrAnd, IfErr, MatchBool}
use Rattle.std.proofs.Common.{MatchResult, sym, subst}
use Rattle.lk_disk.specs.Meters.{CallsSucceed, Breaks}
use Rattle.lk_disk.specs.declared.meter.Meter.{Meter}
use Rattle.lk_disk.proofs.Devices.{passes_on, breaks_on}
use Rattle.lk_log.specs.Causes.{IsRefusedBy}
use Rattle.lk_log.specs.declared.fault.StoreFault.{StoreFault}
use Rattle.lk_log.specs.declared.fault.StoreFault.TheVariants as store
use Rattle.lk_node_interface.specs.Faults.{fault_number, fault_of, RefusedAfter}
use Rattle.lk_node_interface.specs.declared.fault.ReplicaFault.{ReplicaFault}

-- it was refused so
pub refused_by : {T : Type 0} (m n : Meter) (Goes : T → Type 0) (r : Result T ReplicaFault) (f : ReplicaFault)
    → IsErrAnd r (λ e. e ≡ f) → RefusedAfter (fault_number f) m n
    → MatchResult r Goes (λ e. RefusedAfter (fault_number e) m n)
refused_by m n Goes (Ok x) f is by = absurd is
refused_by m n Goes (Err e) f is by = subst (λ x. RefusedAfter (fault_number x) m n) (sym is) by

pub err_as : {T : Type 0} (P : ReplicaFault → Type 0) (r : Result T ReplicaFault) (f : ReplicaFault)
    → IsErrAnd r (λ e. e ≡ f) → P f → IfErr r P
err_as P (Ok x) f is p = absurd is
err_as P (Err e) f is p = subst P (sym is) p

-- of a store
pub refused_after : (m n : Meter) (f : StoreFault) → IsRefusedBy m n f → RefusedAfter (fault_number (fault_of f)) m n
refused_after m n store.Device by = by
refused_after m n store.NoMemory by = by
refused_after m n store.Failed by = by

after_some : {l m : Meter} (j : ℕ) → CallsSucceed l m j → (n : Meter) (b : Bool)
    → MatchBool b (Breaks m n) ((k : ℕ) × CallsSucceed m n k) → MatchBool b (Breaks l n) ((k : ℕ) × CallsSucceed l n k)
after_some j before n true by = breaks_on j before by
after_some j before n false by = (j + by.0, passes_on j before by.0 by.1)

-- a refusal after calls that passed
pub refused_on : {l m : Meter} (j : ℕ) → CallsSucceed l m j → (n : Meter) (number : ℕ) → RefusedAfter number m n
    → RefusedAfter number l n
refused_on j before n number by = after_some j before n (number == 7) by
