-- A reader that takes exactly what its spelling is, and the ways to build one of others.
use Rattle.std.proofs.Common.{◌≡◌, ℕ, suc, ◌+◌, ◌<◌, ◌≤◌, ◌⊎◌, Bool, true, false, cond, ltb, List, [], ◌∷◌, ◌++◌}
use Rattle.std.proofs.Common.{length, get_or, take, drop, Option, Some, None, refl, sym, ap, subst, ◌∙◌, append_assoc}
use Rattle.std.proofs.Common.{arith, inl, inr}
use Rattle.std.proofs.lemmas.Bool.{cases_lt, ltb-false}
use Rattle.std.proofs.lemmas.List.{length-take, get_or-drop, get_or-take, get_or_past, append-nil, nil_from_length}
use Rattle.lk_codec.specs.Fronts.{ReadsFront}
use Rattle.lk_codec.specs.Parser.{◌>>=◌, Finds, read_byte, both, made, tested, whole}

abbrev pub IsBytes : List ℕ → Type 0
IsBytes bytes = (i : ℕ) → get_or bytes i 0 < 256

pub IsBytes-drop : (n : ℕ) (bytes : List ℕ) → IsBytes bytes → IsBytes (drop n bytes)
IsBytes-drop n bytes h i = rw get_or-drop (h (n + i))

pub IsBytes-take : (n : ℕ) (bytes : List ℕ) → IsBytes bytes → IsBytes (take n bytes)
IsBytes-take n bytes h i =
    elim (cases_lt i n) [
      | inl lt ↦ rw (get_or-take n bytes i 0 lt) (h i)
      | inr le ↦ rw (get_or_past (take n bytes) i 0 (omega (arith, length-take n bytes))) (omega arith)
    ]

pub IsBytes-rest : (b : ℕ) (bytes : List ℕ) → IsBytes (b ∷ bytes) → IsBytes bytes
IsBytes-rest b bytes h i = h (suc i)

-- the value of a step that did not fail
pub bind_ok : {A B : Type 0} (r : Option A) (f : A → Option B) (y : B) → (r >>= f) ≡ Some y
    → (x : A) × (r ≡ Some x) × (f x ≡ Some y)
bind_ok (Some x) f y e = (x, refl, e)
bind_ok None f y e = absurd cc

-- which way a test went
pub chosen : {A : Type 0} (b : Bool) (x y z : A) → cond b x y ≡ z → ((b ≡ true) × (x ≡ z)) ⊎ ((b ≡ false) × (y ≡ z))
chosen true x y z e = inl (refl, e)
chosen false x y z e = inr (refl, e)

abbrev pub done : {A : Type 0} → A → Option A
done x = Some x

pub some_is : {A : Type 0} (x y : A) → done x ≡ done y → x ≡ y
some_is x y e = cc

-- what a reader took from the front
pub record Took {X : Type 0} (s : X → List ℕ) (F : X → Type 0) (bytes : List ℕ) (x : X) (rest : List ℕ) : Type 0 where
  pub parts : bytes ≡ s x ++ rest
  pub rest_fits : IsBytes rest
  pub fits : F x

-- what is read is spelled so and fits, and what fits is read again, whatever follows
pub record Reads {X : Type 0} (p : List ℕ → Option (X × List ℕ)) (s : X → List ℕ) (F : X → Type 0) : Type 0 where
  pub takes : (bytes : List ℕ) (x : X) (rest : List ℕ) → IsBytes bytes
      → p bytes ≡ Some (x, rest) → Took s F bytes x rest
  pub again : (x : X) (rest : List ℕ) → F x → p (s x ++ rest) ≡ Some (x, rest)

-- the same under another name of what fits
pub fitting : {X : Type 0} (p : List ℕ → Option (X × List ℕ)) (s : X → List ℕ) (F G : X → Type 0)
    → ((x : X) → F x → G x) → ((x : X) → G x → F x) → Reads p s F → Reads p s G
fitting p s F G to back r = record {
  takes = λ bytes x rest h e. let t = r.takes bytes x rest h e in
      record { parts = t.parts; rest_fits = t.rest_fits; fits = to x t.fits };
  again = λ x rest fits. r.again x rest (back x fits);
}

module _ {X Y : Type 0} where
  both_takes : (p : List ℕ → Option (X × List ℕ)) (s : X → List ℕ) (F : X → Type 0) (q : List ℕ → Option (Y × List ℕ))
      (t : Y → List ℕ) (G : Y → Type 0) → Reads p s F → Reads q t G
      → (bytes : List ℕ) (x : X × Y) (rest : List ℕ) → IsBytes bytes → both p q bytes ≡ Some (x, rest)
      → Took (λ (z : X × Y). s z.0 ++ t z.1) (λ (z : X × Y). F z.0 × G z.1) bytes x rest
  both_takes p s F q t G rp rq bytes x rest h e =
      let a = bind_ok (p bytes) (λ a. q a.1 >>= λ b. Some ((a.0, b.0), b.1)) (x, rest) e in
      let b = bind_ok (q a.0.1) (λ b. Some ((a.0.0, b.0), b.1)) (x, rest) a.2 in
      let first = rp.takes bytes a.0.0 a.0.1 h a.1 in
      let second = rq.takes a.0.1 b.0.0 b.0.1 first.rest_fits b.1 in
      let made : (X × Y) × List ℕ = ((a.0.0, b.0.0), b.0.1) in
      subst (λ (z : (X × Y) × List ℕ). Took (λ (z : X × Y). s z.0 ++ t z.1)
      (λ (z : X × Y). F z.0 × G z.1) bytes z.0 z.1) (some_is made (x, rest) b.2)
      (record {
        parts = first.parts ∙ ap (λ (r : List ℕ). s a.0.0 ++ r) second.parts
            ∙ sym (append_assoc (s a.0.0) (t b.0.0) b.0.1);
        rest_fits = second.rest_fits;
        fits = (first.fits, second.fits);
      })

  -- one after the other
  pub both_reads : (p : List ℕ → Option (X × List ℕ)) (s : X → List ℕ) (F : X → Type 0)
      (q : List ℕ → Option (Y × List ℕ)) (t : Y → List ℕ) (G : Y → Type 0) → Reads p s F → Reads q t G
      → Reads (both p q) (λ (z : X × Y). s z.0 ++ t z.1) (λ (z : X × Y). F z.0 × G z.1)
  both_reads p s F q t G rp rq = record {
    takes = both_takes p s F q t G rp rq;
    again = λ x rest fits. ap (both p q) (append_assoc (s x.0) (t x.1) rest)
        ∙ rw (rp.again x.0 (t x.1 ++ rest) fits.0, rq.again x.1 rest fits.1) refl;
  }

  made_takes : (f : X → Y) (p : List ℕ → Option (X × List ℕ)) (s : X → List ℕ) (F : X → Type 0) → Reads p s F
      → (bytes : List ℕ) (y : Y) (rest : List ℕ) → IsBytes bytes → made f p bytes ≡ Some (y, rest)
      → (x : X) × (f x ≡ y) × Took s F bytes x rest
  made_takes f p s F r bytes y rest h e =
      let a = bind_ok (p bytes) (λ a. Some (f a.0, a.1)) (y, rest) e in
      let m : Y × List ℕ = (f a.0.0, a.0.1) in
      let is = some_is m (y, rest) a.2 in
      let t = r.takes bytes a.0.0 a.0.1 h a.1 in (
        a.0.0,
        ap (λ (z : Y × List ℕ). z.0) is,
        subst (λ (z : List ℕ). Took s F bytes a.0.0 z) (ap (λ (z : Y × List ℕ). z.1) is) t,
      )

  -- what holds of each value that another view can make of what was read
  pub made_as : (f : X → Y) (p : List ℕ → Option (X × List ℕ)) (s : X → List ℕ) (F : X → Type 0) → Reads p s F
      → (P : Y → List ℕ → Type 0) (bytes : List ℕ) (y : Y) (rest : List ℕ) → IsBytes bytes
      → made f p bytes ≡ Some (y, rest)
      → ((x : X) → Took s F bytes x rest → P (f x) rest) → P y rest
  made_as f p s F r P bytes y rest h e then =
      let m = made_takes f p s F r bytes y rest h e in
      subst (λ (z : Y). P z rest) m.1 (then m.0 m.2)

  -- another view of the value, which can be undone
  pub made_reads : (f : X → Y) (g : Y → X) → ((x : X) → g (f x) ≡ x) → ((y : Y) → f (g y) ≡ y)
      → (p : List ℕ → Option (X × List ℕ)) (s : X → List ℕ) (F : X → Type 0) → Reads p s F
      → Reads (made f p) (λ (y : Y). s (g y)) (λ (y : Y). F (g y))
  made_reads f g gf fg p s F r = record {
    takes = λ bytes y rest h e. made_as f p s F r
        (λ (z : Y) (w : List ℕ). Took (λ (y : Y). s (g y)) (λ (y : Y). F (g y)) bytes z w) bytes y rest h e
        (λ x t. record { parts = rw (gf x) t.parts; rest_fits = t.rest_fits; fits = rw (gf x) t.fits });
    again = λ y rest fits. rw (r.again (g y) rest fits) (ap (λ (z : Y). Some (z, rest)) (fg y));
  }

module _ {X : Type 0} where
  tested_takes : (b : X → Bool) (p : List ℕ → Option (X × List ℕ)) (s : X → List ℕ) (F : X → Type 0) → Reads p s F
      → (bytes : List ℕ) (x : X) (rest : List ℕ) → IsBytes bytes → tested b p bytes ≡ Some (x, rest)
      → Took s (λ (x : X). F x × (b x ≡ true)) bytes x rest
  tested_takes b p s F r bytes x rest h e =
      let a = bind_ok (p bytes) (λ a. cond (b a.0) (Some a) None) (x, rest) e in
      elim (chosen (b a.0.0) (Some a.0) None (Some (x, rest)) a.2) [
        | inl passing ↦
            let t = r.takes bytes a.0.0 a.0.1 h a.1 in
            subst (λ (z : X × List ℕ). Took s (λ (x : X). F x × (b x ≡ true)) bytes z.0 z.1)
            (some_is a.0 (x, rest) passing.1)
            (record { parts = t.parts; rest_fits = t.rest_fits; fits = (t.fits, passing.0) })
        | inr failing ↦ let bad = failing.1 in absurd cc
      ]

  -- only what passes a test
  pub tested_reads : (b : X → Bool) (p : List ℕ → Option (X × List ℕ)) (s : X → List ℕ) (F : X → Type 0) → Reads p s F
      → Reads (tested b p) s (λ (x : X). F x × (b x ≡ true))
  tested_reads b p s F r = record {
    takes = tested_takes b p s F r;
    again = λ x rest fits. rw (r.again x rest fits.0, fits.1) refl;
  }

-- ---- a byte

byte_takes : (bytes : List ℕ) (x : ℕ) (rest : List ℕ) → IsBytes bytes → read_byte bytes ≡ Some (x, rest)
    → Took (λ (n : ℕ). n ∷ []) (λ (n : ℕ). n < 256) bytes x rest
byte_takes [] x rest h e = absurd cc
byte_takes (b ∷ bytes) x rest h e =
    let read : ℕ × List ℕ = (b, bytes) in
    subst (λ (z : ℕ × List ℕ). Took (λ (n : ℕ). n ∷ []) (λ (n : ℕ). n < 256) (b ∷ bytes) z.0 z.1)
    (some_is read (x, rest) e) (record { parts = refl; rest_fits = IsBytes-rest b bytes h; fits = h 0 })

pub byte_reads : Reads read_byte (λ (n : ℕ). n ∷ []) (λ (n : ℕ). n < 256)
byte_reads = record { takes = byte_takes; again = λ x rest fits. refl }

-- ---- what follows for any reader

module _ {X : Type 0} where
  -- no spelling begins another one
  pub one_front : (p : List ℕ → Option (X × List ℕ)) (s : X → List ℕ) (F : X → Type 0) → Reads p s F
      → (x y : X) (rest others : List ℕ) → F x → F y → s x ++ rest ≡ s y ++ others → (x ≡ y) × (rest ≡ others)
  one_front p s F r x y rest others fx fy e =
      let read : X × List ℕ = (x, rest) in
      let other : X × List ℕ = (y, others) in
      let same = some_is read other (sym (r.again x rest fx) ∙ ap p e ∙ r.again y others fy) in
      (ap (λ (z : X × List ℕ). z.0) same, ap (λ (z : X × List ℕ). z.1) same)

module _ {X Y : Type 0} where
  -- what reading gives is what stands at the front
  pub front_is : (p : List ℕ → Option (X × List ℕ)) (s : X → List ℕ) (F : X → Type 0) → Reads p s F
      → (view : Y → X × List ℕ) (bytes : List ℕ) (result : Option Y) → IsBytes bytes → Finds view result (p bytes)
      → ReadsFront view s F bytes result
  front_is p s F r view bytes (Some y) h given =
      let t = r.takes bytes (view y).0 (view y).1 h given in
      record {
        found = (t.fits, t.parts);
        only = λ x rest fits e. let read : X × List ℕ = (x, rest) in
            some_is (view y) read (sym given ∙ ap p e ∙ r.again x rest fits);
      }
  front_is p s F r view bytes None h given = record {
    found = tt;
    only = λ x rest fits e. let some : p bytes ≡ Some (x, rest) = ap p e ∙ r.again x rest fits in absurd cc;
  }

-- ---- all of the bytes

module _ {X : Type 0} where
  pub whole_takes : (p : List ℕ → Option (X × List ℕ)) (s : X → List ℕ) (F : X → Type 0) → Reads p s F
      → (bytes : List ℕ) (x : X) → IsBytes bytes → whole p bytes ≡ Some x → F x × (bytes ≡ s x)
  whole_takes p s F r bytes x h e =
      let a = bind_ok (p bytes) (λ a. cond (ltb 0 (length a.1)) None (Some a.0)) x e in
      elim (chosen (ltb 0 (length a.0.1)) None (Some a.0.0) (Some x) a.2) [
        | inl more ↦ let bad = more.1 in absurd cc
        | inr g ↦
            let t = r.takes bytes a.0.0 a.0.1 h a.1 in
            let short : length a.0.1 ≤ 0 = ltb-false _ _ g.0 in
            let nothing : a.0.1 ≡ [] = nil_from_length a.0.1 (omega arith) in
            subst (λ (z : X). F z × (bytes ≡ s z)) (some_is a.0.0 x g.1)
            (t.fits, t.parts ∙ ap (λ (w : List ℕ). s a.0.0 ++ w) nothing ∙ append-nil (s a.0.0))
      ]

  pub whole_again : (p : List ℕ → Option (X × List ℕ)) (s : X → List ℕ) (F : X → Type 0) → Reads p s F → (x : X)
      → F x → whole p (s x) ≡ Some x
  whole_again p s F r x fits =
      let e : p (s x) ≡ Some (x, []) = ap p (sym (append-nil (s x))) ∙ r.again x [] fits in
      rw e refl
