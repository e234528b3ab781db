-- What is left of a node, at each status.
use Rattle.std.proofs.Common.{◌≡◌, ◌≤◌, ℕ, zero, suc, Result, Ok, Err, refl, arith}
use Rattle.std.specs.Prelude.{IfOk, IfErr, IsOkAnd, MatchResult}

module _ {X E : Type 0} (A B P : X → Type 0) (R Q : E → Type 0) where
  -- a value is left at 0 or at 1, and an error at 1
  pub left_at : (r : Result X E) (status : ℕ) → status ≤ 1 → (status ≡ 0 → IsOkAnd r A) → (status ≡ 1 → IfOk r B)
      → IfErr r R → ((x : X) → (status ≡ 0 → A x) → (status ≡ 1 → B x) → P x) → ((e : E) → status ≡ 1 → R e → Q e)
      → MatchResult r P Q
  left_at (Ok x) status most at_zero at_one failed value error = value x at_zero at_one
  left_at (Err e) zero most at_zero at_one failed value error = absurd (at_zero refl)
  left_at (Err e) (suc n) most at_zero at_one failed value error = error e (omega (arith, most)) failed
