-- Lists of things, one after the other, with a count before them or without.
use Rattle.std.proofs.Common.{◌≡◌, ℕ, zero, suc, List, [], ◌∷◌, ◌++◌, length, Option, Some, refl, sym, ap, subst, ◌∙◌}
use Rattle.std.proofs.Common.{append_assoc}
use Rattle.std.specs.List.{flat_map, AllByRecursion}
use Rattle.std.proofs.lemmas.List.Concat.{flat_map-cons}
use Rattle.lk_codec.specs.Parser.{◌>>=◌, many, counted}
use Rattle.lk_codec.proofs.Codec.{IsBytes, bind_ok, some_is, Took, Reads}

module _ {X : Type 0} where
  pub many_takes : (p : List ℕ → Option (X × List ℕ)) (s : X → List ℕ) (F : X → Type 0) → Reads p s F
      → (n : ℕ) (bytes : List ℕ) (xs : List X) (rest : List ℕ) → IsBytes bytes → many p n bytes ≡ Some (xs, rest)
      → Took (flat_map s) (λ (xs : List X). (length xs ≡ n) × AllByRecursion F xs) bytes xs rest
  many_takes p s F r zero bytes xs rest h e =
      let nothing : List X × List ℕ = ([], bytes) in
      subst (λ (z : List X × List ℕ). Took (flat_map s)
      (λ (xs : List X). (length xs ≡ 0) × AllByRecursion F xs) bytes z.0 z.1) (some_is nothing (xs, rest) e)
      (record { parts = refl; rest_fits = h; fits = (refl, tt) })
  many_takes p s F r (suc n) bytes xs rest h e =
      let a = bind_ok (p bytes) (λ a. many p n a.1 >>= λ b. Some (a.0 ∷ b.0, b.1)) (xs, rest) e in
      let b = bind_ok (many p n a.0.1) (λ b. Some (a.0.0 ∷ b.0, b.1)) (xs, rest) a.2 in
      let first = r.takes bytes a.0.0 a.0.1 h a.1 in
      let second = many_takes p s F r n a.0.1 b.0.0 b.0.1 first.rest_fits b.1 in
      let all : List X × List ℕ = (a.0.0 ∷ b.0.0, b.0.1) in
      subst (λ (z : List X × List ℕ). Took (flat_map s)
      (λ (xs : List X). (length xs ≡ suc n) × AllByRecursion F xs) bytes z.0 z.1) (some_is all (xs, rest) b.2)
      (record {
        parts = first.parts ∙ ap (λ (r : List ℕ). s a.0.0 ++ r) second.parts
            ∙ sym (append_assoc (s a.0.0) (flat_map s b.0.0) b.0.1)
            ∙ ap (λ (t : List ℕ). t ++ b.0.1) (sym (flat_map-cons s a.0.0 b.0.0));
        rest_fits = second.rest_fits;
        fits = (ap suc second.fits.0, (first.fits, second.fits.1));
      })

  pub many_again : (p : List ℕ → Option (X × List ℕ)) (s : X → List ℕ) (F : X → Type 0) → Reads p s F
      → (xs : List X) (rest : List ℕ) → AllByRecursion F xs
      → many p (length xs) (flat_map s xs ++ rest) ≡ Some (xs, rest)
  many_again p s F r [] rest fits = refl
  many_again p s F r (x ∷ xs) rest fits =
      let regrouped : flat_map s (x ∷ xs) ++ rest ≡ s x ++ (flat_map s xs ++ rest) =
      ap (λ (t : List ℕ). t ++ rest) (flat_map-cons s x xs) ∙ append_assoc (s x) (flat_map s xs) rest in
      ap (many p (suc (length xs))) regrouped
      ∙ rw (r.again x (flat_map s xs ++ rest) fits.0, many_again p s F r xs rest fits.1) refl

  counted_takes : (c : List ℕ → Option (ℕ × List ℕ)) (t : ℕ → List ℕ) (C : ℕ → Type 0) → Reads c t C
      → (p : List ℕ → Option (X × List ℕ)) (s : X → List ℕ) (F : X → Type 0) → Reads p s F
      → (bytes : List ℕ) (xs : List X) (rest : List ℕ) → IsBytes bytes → counted c p bytes ≡ Some (xs, rest)
      → Took (λ (xs : List X). t (length xs) ++ flat_map s xs)
      (λ (xs : List X). C (length xs) × AllByRecursion F xs) bytes xs rest
  counted_takes c t C rc p s F r bytes xs rest h e =
      let a = bind_ok (c bytes) (λ n. many p n.0 n.1) (xs, rest) e in
      let count = rc.takes bytes a.0.0 a.0.1 h a.1 in
      let all = many_takes p s F r a.0.0 a.0.1 xs rest count.rest_fits a.2 in
      record {
        parts = count.parts ∙ ap (λ (n : ℕ). t n ++ a.0.1) (sym all.fits.0)
            ∙ ap (λ (w : List ℕ). t (length xs) ++ w) all.parts
            ∙ sym (append_assoc (t (length xs)) (flat_map s xs) rest);
        rest_fits = all.rest_fits;
        fits = (subst C (sym all.fits.0) count.fits, all.fits.1);
      }

  -- a count, and so many
  pub counted_reads : (c : List ℕ → Option (ℕ × List ℕ)) (t : ℕ → List ℕ) (C : ℕ → Type 0) → Reads c t C
      → (p : List ℕ → Option (X × List ℕ)) (s : X → List ℕ) (F : X → Type 0) → Reads p s F
      → Reads (counted c p) (λ (xs : List X). t (length xs) ++ flat_map s xs)
      (λ (xs : List X). C (length xs) × AllByRecursion F xs)
  counted_reads c t C rc p s F r = record {
    takes = counted_takes c t C rc p s F r;
    again = λ xs rest fits. ap (counted c p) (append_assoc (t (length xs)) (flat_map s xs) rest)
        ∙ rw (rc.again (length xs) (flat_map s xs ++ rest) fits.0) (many_again p s F r xs rest fits.1);
  }
