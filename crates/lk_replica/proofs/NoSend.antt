-- A call that was refused, but not by the post, has sent nothing.
use Rattle.std.proofs.Common.{◌≡◌, ℕ, List, Result, Ok, Err, IsErrAnd, refl, sym, ap, ◌∙◌, arith}
use Rattle.std.specs.Prelude.{Vec}
use Rattle.std.specs.Global.{Global}
use Rattle.lk_node_interface.specs.Faults.{fault_number, IfSend, IfGoesOn}
use Rattle.lk_node_interface.specs.declared.fault.ReplicaFault.{ReplicaFault}
use Rattle.lk_node_interface.specs.declared.fault.ReplicaFault.TheVariants as fault
use Rattle.lk_node_interface.specs.declared.note.Note.{Note}
use Rattle.lk_replica.specs.Posts.{RefusesSends}

-- its number is none of the post's
pub sends_not : (e : ReplicaFault) → IfSend (λ notes. ⊥) e → fault_number e ≡ 15 → ⊥
sends_not fault.Device none is = omega (arith, is)
sends_not fault.NoMemory none is = omega (arith, is)
sends_not fault.Damaged none is = omega (arith, is)
sends_not fault.WrongStore none is = omega (arith, is)
sends_not fault.Failed none is = omega (arith, is)
sends_not fault.Halted none is = omega (arith, is)
sends_not (fault.Send notes) none is = none

-- and where it is not, whatever is said of one holds
never_sends : (P : List Note → Type 0) (e : ReplicaFault) → (fault_number e ≡ 15 → ⊥) → IfSend P e
never_sends P fault.Device none = tt
never_sends P fault.NoMemory none = tt
never_sends P fault.Damaged none = tt
never_sends P fault.WrongStore none = tt
never_sends P fault.Failed none = tt
never_sends P fault.Halted none = tt
never_sends P (fault.Send notes) none = absurd (none refl)

-- so it does not go on
pub goes_not : (P : List Note → Type 0) (r : Result (Vec Note Global) ReplicaFault) (e : ReplicaFault)
    → IsErrAnd r (λ x. x ≡ e) → (fault_number e ≡ 15 → ⊥) → IfGoesOn r P
goes_not P (Ok notes) e is none = absurd is
goes_not P (Err x) e is none = never_sends P x (λ sent. none (ap fault_number (sym is) ∙ sent))

pub ends_silently : {P : Type 0} {number before now : ℕ} (old new : P) → (number ≡ 15 → ⊥) → new ≡ old
    → RefusesSends number old new before now
ends_silently old new none same = record { silent = λ _. same; some_fail = λ is. absurd (none is) }
