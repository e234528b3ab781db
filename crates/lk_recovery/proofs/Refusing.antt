-- Why a store refused what a replica asked of it.
use Rattle.std.proofs.Common.{◌≡◌, ◌<◌, ◌≤◌, ◌⊎◌, Bool, true, false, Result, Err, refl, ap, inl, inr, arith}
use Rattle.std.proofs.lemmas.Bool.{cases_lt}
use Rattle.std.specs.Prelude.{IsErrOf}
use Rattle.lk_types.specs.Limits.{max_count}
use Rattle.lk_log.specs.StoreValue.{StoreValue}
use Rattle.lk_log.specs.declared.fault.StoreFault.{StoreFault}
use Rattle.lk_log.specs.declared.fault.StoreFault.TheVariants as store
use Rattle.lk_node_interface.specs.Faults.{IsStoreFault, fault_number, fault_of}
use Rattle.lk_node_interface.specs.declared.fault.ReplicaFault.{ReplicaFault}
use Rattle.lk_node_interface.specs.declared.fault.ReplicaFault.TheVariants as fault

-- one error
pub same_error : {T E : Type 0} (e f : E) → ◌≡◌ {A = Result T E} (Err e) (Err f) → e ≡ f
same_error e f is = cc is

refused_so : (f : StoreFault) → (f ≡ store.Device) ⊎ (f ≡ store.NoMemory) → IsStoreFault (fault_number (fault_of f))
refused_so f by = elim by [
  | inl device ↦ inl (ap (λ z. fault_number (fault_of z)) device)
  | inr memory ↦ inr (inl (ap (λ z. fault_number (fault_of z)) memory))
]

failed_so : (f : StoreFault) → f ≡ store.Failed → IsStoreFault (fault_number (fault_of f))
failed_so f is = inr (inr (ap (λ z. fault_number (fault_of z)) is))

-- which refusals a rebase has
pub rebase_refused : (old : StoreValue) (f : StoreFault)
    → (old.failed ≡ true → IsErrOf {T = Unit {0}} (Err f) store.Failed)
    → (max_count ≤ old.generation → IsErrOf {T = Unit {0}} (Err f) store.Failed)
    → (old.failed ≡ false → old.generation < max_count → (f ≡ store.Device) ⊎ (f ≡ store.NoMemory))
    → IsStoreFault (fault_number (fault_of f))
rebase_refused old f before last otherwise = by_state old.failed refl
  where
    by_state : (b : Bool) → old.failed ≡ b → IsStoreFault (fault_number (fault_of f))
    by_state true is = failed_so f (same_error f store.Failed (before is))
    by_state false is = elim (cases_lt old.generation max_count)
        [ inl less ↦ refused_so f (otherwise is less) | inr most ↦ failed_so f (same_error f store.Failed (last most)) ]

-- and a put
pub put_refused : (old : StoreValue) (f : StoreFault)
    → (old.failed ≡ true → IsErrOf {T = Unit {0}} (Err f) store.Failed)
    → (old.failed ≡ false → (f ≡ store.Device) ⊎ (f ≡ store.NoMemory)) → IsStoreFault (fault_number (fault_of f))
put_refused old f before otherwise = by_state old.failed refl
  where
    by_state : (b : Bool) → old.failed ≡ b → IsStoreFault (fault_number (fault_of f))
    by_state true is = failed_so f (same_error f store.Failed (before is))
    by_state false is = refused_so f (otherwise is)

pub failed_alone : (e : ReplicaFault) → fault_number e ≡ 11 → e ≡ fault.Failed
failed_alone fault.Device is = absurd (omega (arith, is))
failed_alone fault.NoMemory is = absurd (omega (arith, is))
failed_alone fault.Damaged is = absurd (omega (arith, is))
failed_alone fault.WrongStore is = absurd (omega (arith, is))
failed_alone fault.Failed is = refl
failed_alone fault.Halted is = absurd (omega (arith, is))
failed_alone (fault.Send notes) is = absurd (omega (arith, is))
