-- Ways to build a reader of others, beside those of the fields.
use Rattle.std.proofs.Common.{◌≡◌, ℕ, suc, ◌-◌, ◌≤◌, Bool, true, false, cond, eqb, ltb, ◌&&◌, List, [], ◌∷◌, ◌++◌}
use Rattle.std.proofs.Common.{length, take, drop, replicate, Option, Some, None, refl, ap, sym, subst, ◌∙◌, arith}
use Rattle.std.proofs.Common.{inl, inr}
use Rattle.std.proofs.lemmas.Bool.{eqb-true, le-ltb}
use Rattle.std.proofs.lemmas.Bool.Decides.{nat_tests}
use Rattle.std.proofs.lemmas.List.{length-append, length-replicate, take_at, drop_at, take-append-drop}
use Rattle.lk_codec.specs.Parser.{◌>>=◌, made}
use Rattle.lk_codec.proofs.Spellings.{IsBytes, bind_ok, chosen, some_is, Took, Reads, made_as}
use Rattle.lk_probe.specs.Grammar.{front, padded}
use Rattle.lk_probe.specs.Reading.{are_zeros, cut, fronted, filled}

module _ {X Y : Type 0} where
  -- another view of the value, which can be undone where it fits
  pub remade_reads : (f : X → Y) (g : Y → X) (p : List ℕ → Option (X × List ℕ)) (s : X → List ℕ)
      (F : X → Type 0) (G : Y → Type 0)
      → ((x : X) → F x → (g (f x) ≡ x) × G (f x)) → ((y : Y) → G y → (f (g y) ≡ y) × F (g y)) → Reads p s F
      → Reads (made f p) (λ (y : Y). s (g y)) G
  remade_reads f g p s F G to back r = record {
    takes = λ bytes y rest h e. made_as f p s F r
        (λ (z : Y) (w : List ℕ). Took (λ (y : Y). s (g y)) G bytes z w) bytes y rest h e
        (λ x t. let is = to x t.fits in record { parts = rw is.0 t.parts; rest_fits = t.rest_fits; fits = is.1 });
    again = λ y rest fits. let is = back y fits in rw (r.again (g y) rest is.1) (ap (λ (z : Y). Some (z, rest)) is.0);
  }

letters : (f k a b c d : ℕ) → (eqb a 76 && eqb b 80 && eqb c f && eqb d k) ≡ true
    → (a ≡ 76) × (b ≡ 80) × (c ≡ f) × (d ≡ k)
letters f k a b c d e = grind (arith, nat_tests)

same : (k : ℕ) → eqb k k ≡ true
same k = grind (arith, nat_tests)

module _ {X : Type 0} where
  fronted_takes : (f k : ℕ) (p : List ℕ → Option (X × List ℕ)) (s : X → List ℕ) (F : X → Type 0) → Reads p s F
      → (bytes : List ℕ) (x : X) (rest : List ℕ) → IsBytes bytes → fronted f k p bytes ≡ Some (x, rest)
      → Took (λ (x : X). front f k (s x)) F bytes x rest
  fronted_takes f k p s F r (a ∷ b ∷ c ∷ d ∷ bytes) x rest h e =
      elim (chosen (eqb a 76 && eqb b 80 && eqb c f && eqb d k) (p bytes) None (Some (x, rest)) e) [
        | inr failing ↦ let bad = failing.1 in absurd cc
        | inl passing ↦
            let are = letters f k a b c d passing.0 in
            let t = r.takes bytes x rest (λ i. h (suc (suc (suc (suc i))))) passing.1 in
            record {
              parts = rw (are.0, are.1, are.2, are.3) (ap (front f k) t.parts);
              rest_fits = t.rest_fits;
              fits = t.fits;
            }
      ]
  fronted_takes f k p s F r [] x rest h e = absurd cc
  fronted_takes f k p s F r (a ∷ []) x rest h e = absurd cc
  fronted_takes f k p s F r (a ∷ b ∷ []) x rest h e = absurd cc
  fronted_takes f k p s F r (a ∷ b ∷ c ∷ []) x rest h e = absurd cc

  -- after the letters, the form and the number
  pub fronted_reads : (f k : ℕ) (p : List ℕ → Option (X × List ℕ)) (s : X → List ℕ) (F : X → Type 0) → Reads p s F
      → Reads (fronted f k p) (λ (x : X). front f k (s x)) F
  fronted_reads f k p s F r = record {
    takes = fronted_takes f k p s F r;
    again = λ x rest fits. rw (same f, same k) (r.again x rest fits);
  }

-- ---- up to the length

pub both_are : (a b : Bool) → (a && b) ≡ true → (a ≡ true) × (b ≡ true)
both_are true b e = (refl, e)
both_are false b e = absurd cc

pub zeros : (bytes : List ℕ) → are_zeros bytes ≡ true → bytes ≡ replicate (length bytes) 0
zeros [] e = refl
zeros (b ∷ bytes) e =
    let are = both_are (eqb b 0) (are_zeros bytes) e in
    rw (eqb-true _ _ are.0) (ap (λ (w : List ℕ). 0 ∷ w) (zeros bytes are.1))

pub are_zeros-replicate : (n : ℕ) → are_zeros (replicate n 0) ≡ true
are_zeros-replicate ℕ.zero = refl
are_zeros-replicate (suc n) = are_zeros-replicate n

pub length-padded : (bytes : List ℕ) → length bytes ≤ 174 → length (padded bytes) ≡ 174
unfolding padded
length-padded bytes short =
    omega (
      arith,
      length-append bytes (replicate (174 - length bytes) 0),
      length-replicate {A = ℕ} (174 - length bytes) 0,
    )

rest_is : (bytes taken rest : List ℕ) → bytes ≡ taken ++ rest → length bytes ≡ 174 → length rest ≡ 174 - length taken
rest_is bytes taken rest e whole =
    let long : length bytes ≡ length (taken ++ rest) = ap length e in
    omega (arith, long, length-append taken rest)

is_padded : (bytes taken rest : List ℕ) → bytes ≡ taken ++ rest → length bytes ≡ 174
    → are_zeros rest ≡ true → bytes ≡ padded taken
unfolding padded
is_padded bytes taken rest e whole nothing =
    e ∙ ap (λ (w : List ℕ). taken ++ w) (zeros rest nothing)
    ∙ ap (λ (n : ℕ). taken ++ replicate n 0) (rest_is bytes taken rest e whole)

module _ {X : Type 0} where
  pub filled_takes : (p : List ℕ → Option (X × List ℕ)) (s : X → List ℕ) (F : X → Type 0) → Reads p s F
      → (bytes : List ℕ) (x : X) → IsBytes bytes → filled p bytes ≡ Some x → F x × (bytes ≡ padded (s x))
  filled_takes p s F r bytes x h e =
      elim (chosen (eqb (length bytes) 174) (p bytes >>= λ a. cond (are_zeros a.1) (Some a.0) None) None (Some x) e) [
        | inr failing ↦ let bad = failing.1 in absurd cc
        | inl whole ↦
            let a = bind_ok (p bytes) (λ a. cond (are_zeros a.1) (Some a.0) None) x whole.1 in
            let t = r.takes bytes a.0.0 a.0.1 h a.1 in
            elim (chosen (are_zeros a.0.1) (Some a.0.0) None (Some x) a.2) [
              | inr more ↦ let bad = more.1 in absurd cc
              | inl nothing ↦ subst (λ (z : X). F z × (bytes ≡ padded (s z))) (some_is a.0.0 x nothing.1)
                  (t.fits, is_padded bytes (s a.0.0) a.0.1 t.parts (eqb-true _ _ whole.0) nothing.0)
            ]
      ]

  pub filled_again : (p : List ℕ → Option (X × List ℕ)) (s : X → List ℕ) (F : X → Type 0) → Reads p s F → (x : X) → F x
      → length (s x) ≤ 174 → filled p (padded (s x)) ≡ Some x
  unfolding padded
  filled_again p s F r x fits short =
      let zeros : List ℕ = replicate (174 - length (s x)) 0 in
      rw (length-padded (s x) short, r.again x zeros fits, are_zeros-replicate (174 - length (s x))) refl

-- ---- what follows the bytes of form 1

module _ {X Y : Type 0} where
  -- both parts are read
  pub cut_takes : (tail : List ℕ → Option Y) (p : Y → List ℕ → Option X) (bytes : List ℕ) (x : X)
      → cut tail p bytes ≡ Some x
      → (y : Y) × (tail (drop 174 bytes) ≡ Some y) × (p y (take 174 bytes) ≡ Some x)
  cut_takes tail p bytes x e =
      elim (chosen (ltb (length bytes) 174) None
      (tail (drop 174 bytes) >>= λ t. p t (take 174 bytes)) (Some x) e) [
        | inl short ↦ let bad = short.1 in absurd cc
        | inr long ↦
            let a = bind_ok (tail (drop 174 bytes)) (λ t. p t (take 174 bytes)) x long.1 in (a.0, a.1, a.2)
      ]

  pub cut_again : (tail : List ℕ → Option Y) (p : Y → List ℕ → Option X) (front back : List ℕ) (x : X) (y : Y)
      → length front ≡ 174 → tail back ≡ Some y → p y front ≡ Some x → cut tail p (front ++ back) ≡ Some x
  cut_again tail p front back x y len is there =
      let long : ltb (length (front ++ back)) 174 ≡ false = le-ltb _ _ (omega (arith, length-append front back)) in
      rw (long, take_at front back 174 len, drop_at front back 174 len, is) there

-- bytes are those of form 1, and what follows them
pub joined : (bytes front back : List ℕ) → take 174 bytes ≡ front → drop 174 bytes ≡ back → bytes ≡ front ++ back
joined bytes front back first last =
    sym (take-append-drop 174 bytes) ∙ ap (λ (w : List ℕ). w ++ drop 174 bytes) first
    ∙ ap (λ (w : List ℕ). front ++ w) last
