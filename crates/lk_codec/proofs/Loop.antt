-- Reading values one after the other, as a loop does.
use Rattle.std.proofs.Common.{◌≡◌, ℕ, suc, ◌-◌, ◌+◌, ◌≤◌, ◌<◌, List, [], ◌∷◌, ◌++◌, Option, Some, None, refl, sym, ap}
use Rattle.std.proofs.Common.{◌∙◌, append_assoc, arith}
use Rattle.std.proofs.lemmas.List.{append-nil}
use Rattle.lk_codec.specs.Parser.{◌>>=◌, many}

module _ {X : Type 0} where
  -- what was read before, and what is still read
  abbrev pub with_front : List X → Option (List X × List ℕ) → Option (List X × List ℕ)
  with_front front read = read >>= λ x. Some (front ++ x.0, x.1)

  regroup : (front : List X) (n : X) (read : Option (List X × List ℕ))
      → with_front front (read >>= λ x. Some (n ∷ x.0, x.1)) ≡ with_front (front ++ n ∷ []) read
  regroup front n (Some x) = ap (λ (ns : List X). Some (ns, x.1)) (simp append_assoc)
  regroup front n None = refl

  pub goes_on : (p : List ℕ → Option (X × List ℕ)) (front : List X) (count i : ℕ) (bytes : List ℕ) (n : X)
      (after : List ℕ) (total : Option (List X × List ℕ)) → i < count → p bytes ≡ Some (n, after)
      → with_front front (many p (count - i) bytes) ≡ total
      → with_front (front ++ n ∷ []) (many p (count - (i + 1)) after) ≡ total
  goes_on p front count i bytes n after total lt h so_far =
      let k : count - i ≡ suc (count - (i + 1)) = omega arith in
      let one : with_front front (many p (count - i) bytes)
      ≡ with_front (front ++ n ∷ []) (many p (count - (i + 1)) after) =
      rw (k, h) (regroup front n (many p (count - (i + 1)) after)) in
      sym one ∙ so_far

  pub ends : (p : List ℕ → Option (X × List ℕ)) (front : List X) (count i : ℕ) (bytes : List ℕ)
      (total : Option (List X × List ℕ)) → i < count → p bytes ≡ None
      → with_front front (many p (count - i) bytes) ≡ total → total ≡ None
  ends p front count i bytes total lt h so_far =
      let k : count - i ≡ suc (count - (i + 1)) = omega arith in
      let one : with_front front (many p (count - i) bytes) ≡ None = rw (k, h) refl in
      sym so_far ∙ one

  pub is_done : (p : List ℕ → Option (X × List ℕ)) (front : List X) (count i : ℕ) (bytes : List ℕ)
      (total : Option (List X × List ℕ)) → count ≤ i → with_front front (many p (count - i) bytes) ≡ total
      → total ≡ Some (front, bytes)
  is_done p front count i bytes total le so_far =
      let k : count - i ≡ 0 = omega arith in
      let one : with_front front (many p (count - i) bytes) ≡ Some (front, bytes) =
      rw k (ap (λ (ns : List X). Some (ns, bytes)) (append-nil front)) in
      sym so_far ∙ one
