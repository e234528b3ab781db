-- Which calls of a device an opening makes.
use Rattle.std.proofs.Common.{◌≡◌, ℕ, ◌+◌, Result, Ok, Err, IsErrAnd, MatchResult, sym, subst, arith}
use Rattle.lk_disk.specs.Meters.{CallsSucceed}
use Rattle.lk_disk.specs.declared.meter.Meter.{Meter}
use Rattle.lk_disk.proofs.Devices.{passes_on, breaks_on}
use Rattle.lk_log.specs.Images.{Image}
use Rattle.lk_log.specs.OpenCauses.{IsRefusedBy, IsMetered}
use Rattle.lk_log.specs.Stores.{OpensBy}
use Rattle.lk_log.specs.declared.fault.OpenFault.{OpenFault}
use Rattle.lk_log.specs.declared.fault.OpenFault.TheVariants.{Device, NoMemory, Damaged, WrongStore}

-- it was refused so
pub refused : {T : Type 0} (m n : Meter) (k : ℕ) (r : Result T OpenFault) (f : OpenFault) → IsErrAnd r (λ e. e ≡ f)
    → IsRefusedBy m n f → IsMetered m n k r
refused m n k (Ok x) f is by = absurd is
refused m n k (Err e) f is by = subst (IsRefusedBy m n) (sym is) by

-- a refusal after calls that passed
pub refused_on : {l m : Meter} (j : ℕ) → CallsSucceed l m j → (n : Meter) (f : OpenFault)
    → IsRefusedBy m n f → IsRefusedBy l n f
refused_on j before n Device b = breaks_on j before b
refused_on j before n NoMemory p = (j + p.0, passes_on j before p.0 p.1)
refused_on j before n Damaged p = (j + p.0, passes_on j before p.0 p.1)
refused_on j before n WrongStore p = (j + p.0, passes_on j before p.0 p.1)

-- a store was opened after reading
pub opens_metered : {T : Type 0} (l m n : Meter) (before : Image) (k : ℕ) (r : Result T OpenFault) → CallsSucceed l m 0
    → OpensBy before k → IsMetered m n k r
    → MatchResult r (λ _. (j : ℕ) × OpensBy before j × CallsSucceed l n j) (λ e. IsRefusedBy l n e)
opens_metered l m n before k (Ok x) p by q = let e : 0 + k ≡ k = omega arith in
    (k, by, subst (λ (j : ℕ). CallsSucceed l n j) e (passes_on 0 p k q))
opens_metered l m n before k (Err e) p by q = refused_on 0 p n e q
