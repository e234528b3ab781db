-- What a refused call of a replica leaves.
use Rattle.std.proofs.Common.{◌≡◌, ℕ, ◌<◌, inl, inr, arith, Bool, true, false, Result, Ok, Err, IsErrAnd, refl, sym}
use Rattle.std.proofs.Common.{ap, ◌∙◌, subst}
use Rattle.std.specs.Prelude.{IfErr, IsErrOf, OnOk}
use Rattle.lk_log.specs.declared.fault.StoreFault.{StoreFault}
use Rattle.lk_log.specs.declared.fault.StoreFault.TheVariants as store
use Rattle.lk_log.specs.StoreValue.{StoreValue, disks}
use Rattle.lk_node.specs.NodeValue.{NodeValue}
use Rattle.lk_node_interface.specs.Faults.{IsStoreFault, fault_number, fault_of, failures_by, IsOfCalls, IfSend}
use Rattle.lk_node_interface.specs.Faults.{IsNumberOfCalls, WantsNoMemory}
use Rattle.lk_replica.specs.Compacted.{IsNotCompacted}
use Rattle.lk_recovery.specs.Compacting.{AreLeft, AreSame, KeepsOrSwitchesFiles}
use Rattle.lk_recovery.specs.Rebased.{IsNotRebased}
use Rattle.lk_replica.specs.ReplicaValue.{ReplicaValue}
use Rattle.lk_replica.specs.Taking.{IsCutShort, IsRefused}
use Rattle.lk_node_interface.specs.declared.fault.ReplicaFault.{ReplicaFault}
use Rattle.lk_node_interface.specs.declared.fault.ReplicaFault.TheVariants as fault
use Rattle.lk_recovery.proofs.Recoveries.{err_as, failed_alone, same_error, spared_number}

-- a fault of a call, by its number
pub number_of_calls : (f : ReplicaFault) → IsOfCalls f → IsNumberOfCalls (fault_number f)
number_of_calls fault.Device of = inl refl
number_of_calls fault.NoMemory of = inr (inl refl)
number_of_calls fault.Damaged of = absurd of
number_of_calls fault.WrongStore of = absurd of
number_of_calls fault.Failed of = inr (inr (inl refl))
number_of_calls fault.Halted of = inr (inr (inr (inl refl)))
number_of_calls (fault.Send notes) of = inr (inr (inr (inr refl)))

pub halted_alone : (e : ReplicaFault) → fault_number e ≡ 14 → e ≡ fault.Halted
halted_alone fault.Device is = absurd (omega (arith, is))
halted_alone fault.NoMemory is = absurd (omega (arith, is))
halted_alone fault.Damaged is = absurd (omega (arith, is))
halted_alone fault.WrongStore is = absurd (omega (arith, is))
halted_alone fault.Failed is = absurd (omega (arith, is))
halted_alone fault.Halted is = refl
halted_alone (fault.Send notes) is = absurd (omega (arith, is))

-- a call of a replica that had not failed, by what it did to the node and the store
pub refused_by_parts : {T : Type 0} (Honest Metered : Type 0) (r : Result T ReplicaFault) (f : ReplicaFault)
    (old : ReplicaValue) (node : NodeValue) (store : StoreValue)
    → IsErrAnd r (λ e. e ≡ f) → old.failed ≡ false → store.failures ≡ failures_by (fault_number f) old.store.failures
    → IsCutShort Honest Metered 2 old.node old.store node store (KeepsOrSwitchesFiles old.node old.store store)
    (AreLeft old.node old.store store) f
    → IfErr r (λ e. IsRefused Honest Metered old
    (record { node = node; store = store; failed = true }) (fault_number e))
refused_by_parts Honest Metered r f old node store is alive failures cut =
    let kept : IsRefused Honest Metered old (record { node = node; store = store; failed = true }) (fault_number f) =
    record {
      told = number_of_calls f cut.told;
      failures = failures;
      calls = cut.calls;
      earlier =
          λ number before store_alive further. cut.earlier (failed_alone f number) store_alive (omega (arith, further));
      second = λ honest number before store_alive less. cut.second honest (failed_alone f number) store_alive less;
      once = λ ended. absurd (let both : false ≡ true = sym alive ∙ ended in cc both);
      ends = λ other. refl;
      file = λ honest post. cut.file honest;
      stays = λ honest device post. spared_number (AreLeft old.node old.store store) f (cut.stays honest) device post;
      halts = λ number. cut.halts (halted_alone f number);
      awake = cut.awake;
    } in
    err_as (λ e. IsRefused Honest Metered old (record { node = node; store = store; failed = true }) (fault_number e))
    r f is kept

-- ---- by what a part of it answered

pub errs_as : {T : Type 0} (r : Result T ReplicaFault) (f : ReplicaFault) (P : ReplicaFault → Type 0)
    → IsErrAnd r (λ e. e ≡ f) → P f → IsErrAnd r P
errs_as (Ok x) f P is p = absurd is
errs_as (Err e) f P is p = subst P (sym is) p

-- it did not succeed
pub not_ok : {T : Type 0} (r : Result T ReplicaFault) (f : ReplicaFault) (P : Type 0) → IsErrAnd r (λ e. e ≡ f)
    → OnOk r P
not_ok (Ok x) f P is = absurd is
not_ok (Err e) f P is = tt

abbrev number_in : {T : Type 0} → Result T ReplicaFault → ℕ
number_in (Ok x) = 0
number_in (Err e) = fault_number e

pub failed_number : {T : Type 0} (e : ReplicaFault) → IsErrOf {T = T} (Err e) fault.Failed
    → WantsNoMemory (fault_number e)
failed_number {T} e is = inr (ap (number_in {T = T}) is)

-- ---- of a store

-- a sync failed for the device, or after an earlier error
pub sync_wants : (old : StoreValue) (f : StoreFault)
    → (old.failed ≡ true → IsErrOf {T = Unit {0}} (Err f) store.Failed) → (old.failed ≡ false → f ≡ store.Device)
    → WantsNoMemory (fault_number (fault_of f))
sync_wants old f before otherwise = by_state old.failed refl
  where
    by_state : (b : Bool) → old.failed ≡ b → WantsNoMemory (fault_number (fault_of f))
    by_state true is = inr (ap (λ z. fault_number (fault_of z)) (same_error f store.Failed (before is)))
    by_state false is = inl (ap (λ z. fault_number (fault_of z)) (otherwise is))

other_fault : (number : ℕ) → IsStoreFault number → 8 < number → (number ≡ 11 → ⊥) → ⊥
other_fault number by more other =
    elim by [
      | inl device ↦ omega (arith, device, more)
      | inr (inl memory) ↦
          omega (arith, memory, more)
      | inr (inr failed) ↦ other failed
    ]

-- a refusal of the store is one of the calls, and none of the post or the node
pub store_told : (e : ReplicaFault) → IsStoreFault (fault_number e) → IsOfCalls e
store_told fault.Device by = tt
store_told fault.NoMemory by = tt
store_told fault.Damaged by = other_fault 9 by (omega arith) (λ is. omega (arith, is))
store_told fault.WrongStore by = other_fault 10 by (omega arith) (λ is. omega (arith, is))
store_told fault.Failed by = tt
store_told fault.Halted by = tt
store_told (fault.Send notes) by = tt

pub store_only : (e : ReplicaFault) → IsStoreFault (fault_number e) → IfSend (λ notes. ⊥) e
store_only fault.Device by = tt
store_only fault.NoMemory by = tt
store_only fault.Damaged by = tt
store_only fault.WrongStore by = tt
store_only fault.Failed by = tt
store_only fault.Halted by = tt
store_only (fault.Send notes) by = other_fault 15 by (omega arith) (λ is. omega (arith, is))

pub store_awake : (e : ReplicaFault) → IsStoreFault (fault_number e) → e ≡ fault.Halted → ⊥
store_awake e by is = other_fault (fault_number e) by (omega (arith, ap fault_number is))
    (λ failed. omega (arith, ap fault_number is, failed))

-- ---- of a compaction

-- that of a replica that had not failed, by what it did to the node and the store
pub not_compacted_by_parts : {T : Type 0} (Honest Metered : Type 0) (r : Result T ReplicaFault) (f : ReplicaFault)
    (old : ReplicaValue) (node : NodeValue) (store : StoreValue)
    → IsErrAnd r (λ e. e ≡ f) → old.failed ≡ false → IsNotRebased Honest Metered old.node old.store node store f
    → IfErr r (λ e. IsNotCompacted Honest Metered old
    (record { node = node; store = store; failed = true }) (fault_number e))
not_compacted_by_parts Honest Metered r f old node store is alive rebase =
    let why = rebase.why in
    let kept : IsNotCompacted Honest Metered old
    (record { node = node; store = store; failed = true }) (fault_number f) =
    record {
      of_store = why.of_store;
      calls = why.calls;
      earlier = λ number before store_alive further. why.earlier (failed_alone f number) store_alive further;
      once = λ ended. absurd (let both : false ≡ true = sym alive ∙ ended in cc both);
      rests = rebase.rests;
      file = why.file;
      ends = refl;
      stays = λ honest device. spared_number (AreSame (disks old.store) (disks store)) f (why.stays honest) device
          (λ post. other_fault (fault_number f) why.of_store (omega (arith, post))
          (λ failed. omega (arith, post, failed)));
    } in
    err_as (λ e. IsNotCompacted Honest Metered old (record { node = node; store = store; failed = true })
    (fault_number e)) r f is kept
