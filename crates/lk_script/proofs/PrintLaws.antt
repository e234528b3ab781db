-- What a datagram prints.
use Rattle.std.proofs.Common.{◌≡◌, Result, Ok, Err, subst}
use Rattle.std.specs.Prelude.{OnOk, IfOk}

-- what follows where a call was done
pub on_ok : {T E : Type 0} (r : Result T E) (P Q : Type 0) → OnOk r P → (P → Q) → OnOk r Q
on_ok (Ok t) P Q done h = h done
on_ok (Err e) P Q done h = tt

-- what a call that was done tells
pub done_is : {T E : Type 0} (r : Result T E) (P : T → Type 0) (t : T) → IfOk r P → r ≡ Ok t → P t
done_is r P t told is = subst (λ q. IfOk q P) is told
