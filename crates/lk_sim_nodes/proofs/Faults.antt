-- By which faults a call ends a node.
use Rattle.std.proofs.Common.{◌≡◌, ℕ, ◌<◌, Option, Some, None, refl, sym, subst, inl, inr, arith}
use Rattle.lk_memory_disk.specs.Memory.{Memory}
use Rattle.lk_node_interface.specs.Faults.{IsStoreFault, fault_number, IsNumberOfCalls, IsNumberOfRevival}
use Rattle.lk_node_interface.specs.declared.fault.ReplicaFault.{ReplicaFault}
use Rattle.lk_node_interface.specs.declared.fault.ReplicaFault.TheVariants as fault
use Rattle.lk_sim_nodes.specs.Ends.{IsOtherFault, IsNoStoreMismatch, IsNumberOfEnd, IsEndByCalls, end_by, end_at}
use Rattle.lk_sim_nodes.specs.declared.end.End.{End}

-- no fault is another one, where it is not "out of memory", and neither damage nor another's store
pub told_fault : (e : ReplicaFault) (left : Memory) → IsOtherFault (fault_number e) left
    → IsNoStoreMismatch (fault_number e)
    → IsNumberOfEnd (fault_number e)
told_fault fault.Device left no_want sound = inl refl
told_fault fault.NoMemory left no_want sound = absurd (no_want.memory refl)
told_fault fault.Damaged left no_want sound = absurd (sound.0 refl)
told_fault fault.WrongStore left no_want sound = absurd (sound.1 refl)
told_fault fault.Failed left no_want sound = inr refl
told_fault fault.Halted left no_want sound = absurd (no_want.halted refl)
told_fault (fault.Send notes) left no_want sound = absurd (no_want.envelopes refl)

pub told_by : (stop : Option ℕ) (n number : ℕ) → IsNumberOfEnd number → IsEndByCalls (Some (end_by stop n number))
told_by None n number is = is
told_by (Some bytes) n number is = tt

pub told_at : (stop : Option ℕ) (n : ℕ) → IsEndByCalls (end_at stop n)
told_at None n = tt
told_at (Some bytes) n = tt

pub told_as : (o p : Option End) → o ≡ p → IsEndByCalls p → IsEndByCalls o
told_as o p is told = subst IsEndByCalls (sym is) told

-- a replica that was up tells of no such store
other_up : (number k : ℕ) → 8 < k → k < 11 → IsNumberOfCalls number → number ≡ k → ⊥
other_up number k more less by is = elim by [
  | inl a ↦ omega (arith, a, is, more)
  | inr (inl a) ↦ omega (arith, a, is, more)
  | inr (inr (inl a)) ↦ omega (arith, a, is, less)
  | inr (inr (inr (inl a))) ↦ omega (arith, a, is, less)
  | inr (inr (inr (inr a))) ↦ omega (arith, a, is, less)
]

pub sound_up : (number : ℕ) → IsNumberOfCalls number → IsNoStoreMismatch number
sound_up number by =
    (other_up number 9 (omega arith) (omega arith) by, other_up number 10 (omega arith) (omega arith) by)

other_packed : (number k : ℕ) → 8 < k → k < 11 → IsStoreFault number → number ≡ k → ⊥
other_packed number k more less by is =
    elim by [
      | inl a ↦ omega (arith, a, is, more)
      | inr (inl a) ↦ omega (arith, a, is, more)
      | inr (inr a) ↦
          omega (arith, a, is, less)
    ]

pub sound_packed : (number : ℕ) → IsStoreFault number → IsNoStoreMismatch number
sound_packed number by =
    (other_packed number 9 (omega arith) (omega arith) by, other_packed number 10 (omega arith) (omega arith) by)

-- nor does a restart
pub sound_back : (number : ℕ) → IsNumberOfRevival number → IsNoStoreMismatch number
sound_back number by = sound_packed number by
