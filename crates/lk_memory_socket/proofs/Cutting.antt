-- What is heard of a datagram that may be too long.
use Rattle.std.proofs.Common.{◌≡◌, ℕ, min, List, [], ◌∷◌, ◌++◌, length, take, refl, ap, sym, ◌∙◌, inl, inr, arith}
use Rattle.std.proofs.lemmas.Bool.{cases_lt}
use Rattle.std.proofs.lemmas.List.{take_all, length-take}

take_front : {X : Type 0} (xs ys : List X) → take (length xs) (xs ++ ys) ≡ xs
take_front [] ys = none ys
  where
    none : {X : Type 0} (ys : List X) → take 0 ys ≡ []
    none [] = refl
    none (y ∷ ys) = refl
take_front (x ∷ xs) ys = ap (λ l. x ∷ l) (take_front xs ys)

-- all of it, or as much as there is room for
same_front : (bytes : List ℕ) (n : ℕ) → n ≡ min (length bytes) 16421 → take n bytes ≡ take 16421 bytes
same_front bytes n e = elim (cases_lt 16421 (length bytes)) [
  | inl longer ↦ (let is : n ≡ 16421 = omega (arith, e, longer) in ap (λ k. take k bytes) is)
  | inr fits ↦ take_all n bytes (omega (arith, e, fits)) ∙ sym (take_all 16421 bytes (omega (arith, fits)))
]

pub heard_so : (bytes copied rest : List ℕ) (n : ℕ) → n ≡ min (length bytes) 16421 → copied ≡ take n bytes
    → take n (copied ++ rest) ≡ take 16421 bytes
heard_so bytes copied rest n e after =
    let long : length copied ≡ n = omega (arith, e, ap length after, length-take n bytes) in
    ap (λ k. take k (copied ++ rest)) (sym long) ∙ take_front copied rest ∙ after ∙ same_front bytes n e
