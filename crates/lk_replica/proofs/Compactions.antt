-- A call that was told to compact, by what it came to.
use Rattle.std.proofs.Common.{◌≡◌, ◌∙◌, ◌≤◌, false, Result, Ok, Err, OnOk, ap, inl, inr, arith}
use Rattle.std.specs.Prelude.{⊤, IfErr, IsErrOf}
use Rattle.lk_types.specs.Limits.{max_count}
use Rattle.lk_disk.specs.Meters.{CallsSucceed}
use Rattle.lk_log.specs.Causes.{rebase_calls}
use Rattle.lk_learner.specs.Learners.{executed}
use Rattle.lk_state.specs.Meanings.{Meaning}
use Rattle.lk_replica.specs.Compacted.{IsCompacted, IsNotCompacted, CompactsTo}
use Rattle.lk_node_interface.specs.Faults.{IsStoreFault, fault_number, CountsFailures, RefusedAfter}
use Rattle.lk_recovery.specs.Compacting.{AllStandAt}
use Rattle.lk_recovery.specs.Rebased.{MatchesBase, HasSwitchedFiles}
use Rattle.lk_replica.specs.ReplicaValue.{ReplicaValue}
use Rattle.lk_node_interface.specs.declared.fault.ReplicaFault.{ReplicaFault}
use Rattle.lk_node_interface.specs.declared.fault.ReplicaFault.TheVariants as fault
use Rattle.lk_replica.proofs.OnDevices.{on_device}
use Rattle.lk_recovery.proofs.Recoveries.{same_error}

-- it has compacted
pub compacted : {T : Type 0} (m : Meaning) (old new : ReplicaValue) (r : Result T ReplicaFault)
    → OnOk r (HasSwitchedFiles m ⊤ old.node old.store new.node new.store)
    → OnOk r (MatchesBase old.node old.store new.node new.store) → OnOk r (new.failed ≡ false)
    → OnOk r (IsCompacted m old new)
compacted m old new (Ok x) done becomes alive = record {
  rebases = done.rebases;
  stands = λ genesis n x shown. on_device
      (λ d. AllStandAt m genesis n d (executed new.node.learner) x.paxos.done) new.store
      (done.stands genesis n x shown);
  calls = done.calls tt;
  alive = alive;
  store_alive = becomes.store_alive;
}
compacted m old new (Err e) done becomes alive = tt

-- it was refused, for a cause
pub refused : {T : Type 0} (m : Meaning) (old new : ReplicaValue) (r : Result T ReplicaFault)
    → CountsFailures old.store.failures new.store.failures r
    → IfErr r (λ e. IsNotCompacted ⊤ ⊤ old new (fault_number e)) → new.node.halted ≡ old.node.halted
    → (max_count ≤ old.store.generation → (new.store ≡ old.store) × IsErrOf r fault.Failed)
    → IfErr r (λ e. CompactsTo m old new (Err (fault_number e)))
refused m old new (Ok x) cause why wakes last = tt
refused m old new (Err e) cause why wakes last = (
  record {
    told = elim why.of_store [ inl a ↦ inl a | inr (inl a) ↦ inr (inl a) | inr (inr a) ↦ inr (inr (inl a)) ];
    failures = cause;
    calls = why.calls;
    earlier = λ number alive store_alive further. why.earlier number alive store_alive (omega (arith, further));
    second = λ honest number alive store_alive less. absurd (why.earlier number alive store_alive less);
    once = why.once;
    ends = λ other. why.ends;
    file = λ honest post. inl why.file;
    stays = λ honest device post. inl (why.stays honest device);
    halts = λ number. absurd
        (elim why.of_store [
          | inl a ↦ omega (arith, a, number)
          | inr (inl a) ↦ omega (arith, a, number)
          | inr (inr a) ↦
              omega (arith, a, number)
        ]);
    awake = λ was other. wakes ∙ was;
  },
  why.of_store,
  λ most. ap fault_number (same_error e fault.Failed (last most).1),
  why.rests,
  why.file,
)

-- with such a number
pub told : {T : Type 0} (old new : ReplicaValue) (r : Result T ReplicaFault)
    → IfErr r (λ e. IsNotCompacted ⊤ ⊤ old new (fault_number e)) → IfErr r (λ e. IsStoreFault (fault_number e))
told old new (Ok x) why = tt
told old new (Err e) why = why.of_store

-- the calls of the device that it has made
pub calls_ok : {T : Type 0} (m : Meaning) (old new : ReplicaValue) (r : Result T ReplicaFault)
    → OnOk r (HasSwitchedFiles m ⊤ old.node old.store new.node new.store)
    → OnOk r (CallsSucceed old.store.meter new.store.meter rebase_calls)
calls_ok m old new (Ok x) done = done.calls tt
calls_ok m old new (Err e) done = tt

pub calls_err : {T : Type 0} (old new : ReplicaValue) (r : Result T ReplicaFault)
    → IfErr r (λ e. IsNotCompacted ⊤ ⊤ old new (fault_number e))
    → IfErr r (λ e. RefusedAfter (fault_number e) old.store.meter new.store.meter)
calls_err old new (Ok x) why = tt
calls_err old new (Err e) why = why.calls tt tt
