-- What stands after a tag, kind by kind: a further kind is one more `kind_takes` or `bare_takes`.
use Rattle.std.proofs.Common.{◌≡◌, ℕ, eqb, List, [], ◌∷◌, ◌++◌, Option, Some, sym, ap, subst, ◌∙◌, inl, inr}
use Rattle.std.proofs.lemmas.Bool.{eqb-true}
use Rattle.lk_codec.specs.Parser.{made, tagged, kind, bare, no_kind}
use Rattle.lk_codec.proofs.Codec.{IsBytes, IsBytes-rest, chosen, some_is, Took, Reads, made_as}

-- a value of that tag, whose fields were taken from the front
pub record Behind {X : Type 0} (tag : X → ℕ) (s : X → List ℕ) (F : X → Type 0) (t : ℕ) (bytes : List ℕ) (x : X)
    (rest : List ℕ) : Type 0 where
  pub tag_is : tag x ≡ t
  pub took : Took s F bytes x rest

-- whatever is read after a tag is a value of that tag
pub record TakesKinds {X : Type 0} (tag : X → ℕ) (s : X → List ℕ) (F : X → Type 0)
    (q : ℕ → List ℕ → Option (X × List ℕ)) : Type 0 where
  pub takes : (t : ℕ) (bytes : List ℕ) (x : X) (rest : List ℕ) → IsBytes bytes → q t bytes ≡ Some (x, rest)
      → Behind tag s F t bytes x rest

module _ {X : Type 0} where
  pub no_kind_takes : (tag : X → ℕ) (s : X → List ℕ) (F : X → Type 0) → TakesKinds tag s F no_kind
  no_kind_takes tag s F = record { takes = λ t bytes x rest h e. absurd cc }

  bare_behind : (tag : X → ℕ) (s : X → List ℕ) (F : X → Type 0) (k : ℕ) (y : X) → tag y ≡ k → s y ≡ [] → F y
      → (q : ℕ → List ℕ → Option (X × List ℕ)) → TakesKinds tag s F q
      → (t : ℕ) (bytes : List ℕ) (x : X) (rest : List ℕ) → IsBytes bytes → kind k (bare y) q t bytes ≡ Some (x, rest)
      → Behind tag s F t bytes x rest
  bare_behind tag s F k y tag_is none fits q others t bytes x rest h e =
      elim (chosen (eqb t k) (Some (y, bytes)) (q t bytes) (Some (x, rest)) e) [
        | inl this ↦
            let read : X × List ℕ = (y, bytes) in
            subst (λ (z : X × List ℕ). Behind tag s F t bytes z.0 z.1) (some_is read (x, rest) this.1)
            (record {
              tag_is = tag_is ∙ sym (eqb-true _ _ this.0);
              took = record { parts = ap (λ (w : List ℕ). w ++ bytes) (sym none); rest_fits = h; fits = fits };
            })
        | inr other ↦ others.takes t bytes x rest h other.1
      ]

  -- one more kind, which holds nothing
  pub bare_takes : (tag : X → ℕ) (s : X → List ℕ) (F : X → Type 0) (k : ℕ) (y : X) → tag y ≡ k → s y ≡ [] → F y
      → (q : ℕ → List ℕ → Option (X × List ℕ)) → TakesKinds tag s F q → TakesKinds tag s F (kind k (bare y) q)
  bare_takes tag s F k y tag_is none fits q others =
      record { takes = bare_behind tag s F k y tag_is none fits q others }

  tagged_takes : (tag : X → ℕ) (s : X → List ℕ) (F : X → Type 0) (q : ℕ → List ℕ → Option (X × List ℕ))
      → TakesKinds tag s F q
      → (bytes : List ℕ) (x : X) (rest : List ℕ) → IsBytes bytes → tagged q bytes ≡ Some (x, rest)
      → Took (λ (x : X). tag x ∷ s x) F bytes x rest
  tagged_takes tag s F q r [] x rest h e = absurd cc
  tagged_takes tag s F q r (t ∷ bytes) x rest h e =
      let b = r.takes t bytes x rest (IsBytes-rest t bytes h) e in
      record {
        parts = ap (λ (w : List ℕ). t ∷ w) b.took.parts ∙ ap (λ (n : ℕ). n ∷ (s x ++ rest)) (sym b.tag_is);
        rest_fits = b.took.rest_fits;
        fits = b.took.fits;
      }

  -- a tag in one byte, and what stands after it
  pub tagged_reads : (tag : X → ℕ) (s : X → List ℕ) (F : X → Type 0) (q : ℕ → List ℕ → Option (X × List ℕ))
      → TakesKinds tag s F q → ((x : X) (rest : List ℕ) → F x → q (tag x) (s x ++ rest) ≡ Some (x, rest))
      → Reads (tagged q) (λ (x : X). tag x ∷ s x) F
  tagged_reads tag s F q r again = record { takes = tagged_takes tag s F q r; again = again }

module _ {X Y : Type 0} where
  kind_behind : (tag : X → ℕ) (s : X → List ℕ) (F : X → Type 0) (k : ℕ) (f : Y → X) (p : List ℕ → Option (Y × List ℕ))
      (t : Y → List ℕ) (G : Y → Type 0) → Reads p t G
      → ((y : Y) → tag (f y) ≡ k) → ((y : Y) → s (f y) ≡ t y) → ((y : Y) → G y → F (f y))
      → (q : ℕ → List ℕ → Option (X × List ℕ)) → TakesKinds tag s F q
      → (n : ℕ) (bytes : List ℕ) (x : X) (rest : List ℕ) → IsBytes bytes → kind k (made f p) q n bytes ≡ Some (x, rest)
      → Behind tag s F n bytes x rest
  kind_behind tag s F k f p t G r tag_is same fits q others n bytes x rest h e =
      elim (chosen (eqb n k) (made f p bytes) (q n bytes) (Some (x, rest)) e) [
        | inl this ↦ made_as f p t G r (Behind tag s F n bytes) bytes x rest h this.1
            (λ y took. record {
              tag_is = tag_is y ∙ sym (eqb-true _ _ this.0);
              took = record {
                parts = took.parts ∙ ap (λ (w : List ℕ). w ++ rest) (sym (same y));
                rest_fits = took.rest_fits;
                fits = fits y took.fits;
              };
            })
        | inr other ↦ others.takes n bytes x rest h other.1
      ]

  -- one more kind: the constructor, and the reader of what it holds
  pub kind_takes : (tag : X → ℕ) (s : X → List ℕ) (F : X → Type 0) (k : ℕ) (f : Y → X)
      (p : List ℕ → Option (Y × List ℕ)) (t : Y → List ℕ) (G : Y → Type 0) → Reads p t G
      → ((y : Y) → tag (f y) ≡ k) → ((y : Y) → s (f y) ≡ t y) → ((y : Y) → G y → F (f y))
      → (q : ℕ → List ℕ → Option (X × List ℕ)) → TakesKinds tag s F q → TakesKinds tag s F (kind k (made f p) q)
  kind_takes tag s F k f p t G r tag_is same fits q others =
      record { takes = kind_behind tag s F k f p t G r tag_is same fits q others }
