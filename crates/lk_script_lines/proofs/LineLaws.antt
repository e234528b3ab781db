-- The first line of a text, and the rest.
use Rattle.std.proofs.Common.{◌≡◌, ℕ, ◌⊎◌, inl, inr, Bool, true, false, cond, eqb, List, [], ◌∷◌, ◌++◌, Option, Some}
use Rattle.std.proofs.Common.{None, IfSome, refl, sym, ap, ◌∙◌, ◌≢◌}
use Rattle.std.proofs.lemmas.Bool.{eqb-true, eqb-false}
use Rattle.std.proofs.lemmas.List.Elements.{All-nil}
use Rattle.std.specs.Io.BufRead.{take_through, drop_through, DropsThrough}
use Rattle.lk_script_lines.specs.Lines.{lines_of, with_byte, first_line, ReadsLine, ReadsWithinLine}

-- the last elements of equal lists, and what stands before them
pub snoc_same : (a b : List ℕ) (x y : ℕ) → a ++ x ∷ [] ≡ b ++ y ∷ [] → (x ≡ y) × (a ≡ b)
snoc_same [] [] x y e = (cc, refl)
snoc_same [] (c ∷ []) x y e = absurd cc
snoc_same [] (c ∷ d ∷ b) x y e = absurd cc
snoc_same (c ∷ []) [] x y e = absurd cc
snoc_same (c ∷ d ∷ a) [] x y e = absurd cc
snoc_same (c ∷ a) (d ∷ b) x y e =
    let tails : a ++ x ∷ [] ≡ b ++ y ∷ [] = cc in
    let same = snoc_same a b x y tails in
    let front : c ≡ d = cc in
    (same.0, ap (λ (t : List ℕ). c ∷ t) same.1 ∙ ap (λ (z : ℕ). z ∷ b) front)

-- the lines of a text that is not at its end
pub lines_first : (b : ℕ) (text : List ℕ)
    → lines_of (b ∷ text) ≡ first_line (b ∷ text) ∷ lines_of (drop_through 10 (b ∷ text))
lines_first b [] = elim (eqb b 10) as (λ v. cond v ([] ∷ []) ((b ∷ []) ∷ [])
    ≡ cond v [] (b ∷ []) ∷ lines_of (cond v [] [])) [ true ↦ refl | false ↦ refl ]
lines_first b (c ∷ text) =
    let rest = lines_first c text in
    elim (eqb b 10) as (λ v. cond v ([] ∷ lines_of (c ∷ text)) (with_byte b (lines_of (c ∷ text)))
    ≡ cond v [] (b ∷ first_line (c ∷ text)) ∷ lines_of (cond v (c ∷ text) (drop_through 10 (c ∷ text)))) [
      | true ↦ refl
      | false ↦ ap (with_byte b) rest
    ]

no_end : (front : List ℕ) → [] ≡ front ++ 10 ∷ [] → ⊥
no_end [] e = absurd cc
no_end (c ∷ front) e = absurd cc

chosen : (t : Bool) → (t ≡ true) ⊎ (t ≡ false)
chosen true = inl refl
chosen false = inr refl

rest_ends : (b : ℕ) (text : List ℕ) → eqb b 10 ≡ false → ((front : List ℕ) → first_line text ≡ front ++ 10 ∷ [] → ⊥)
    → (front : List ℕ) → b ∷ first_line text ≡ front ++ 10 ∷ [] → ⊥
rest_ends b text other none [] e = let same : b ≡ 10 = cc in absurd (eqb-false b 10 other same)
rest_ends b text other none (c ∷ front) e = let tails : first_line text ≡ front ++ 10 ∷ [] = cc in none front tails

-- what is taken through the line feed is the line and the line feed, or the line alone, in which none stands
through : (text : List ℕ)
    → (take_through 10 text ≡ first_line text ++ 10 ∷ [])
    ⊎ ((take_through 10 text ≡ first_line text) × ((front : List ℕ) → first_line text ≡ front ++ 10 ∷ [] → ⊥))
through [] = inr (refl, λ front e. no_end front e)
through (b ∷ text) =
    elim (chosen (eqb b 10)) [
      | inl is ↦ inl (rw is (ap (λ (n : ℕ). n ∷ []) (eqb-true b 10 is)))
      | inr other ↦ elim (through text) [
        | inl e ↦ inl (rw other (ap (λ (t : List ℕ). b ∷ t) e))
        | inr h ↦
            inr (rw other (ap (λ (t : List ℕ). b ∷ t) h.0), λ front e. rest_ends b text other h.1 front (rw other at e))
      ]
    ]

pub ends_line : (text line front : List ℕ) → line ≡ take_through 10 text → line ≡ front ++ 10 ∷ []
    → front ≡ first_line text
ends_line text line front taken e =
    elim (through text) [
      | inl h ↦ (snoc_same front (first_line text) 10 10 (sym e ∙ taken ∙ h)).1
      | inr h ↦ absurd (h.1 front (sym h.0 ∙ sym taken ∙ e))
    ]

pub whole_line : (text line front : List ℕ) (b : ℕ) → line ≡ take_through 10 text → line ≡ front ++ b ∷ []
    → b ≢ 10 → line ≡ first_line text
whole_line text line front b taken e other =
    elim (through text) [
      | inl h ↦ absurd (other (snoc_same front (first_line text) b 10 (sym e ∙ taken ∙ h)).0)
      | inr h ↦ taken ∙ h.0
    ]

-- a line was taken where something was read
pub took_line : (old new : Option (List ℕ)) (read line : List ℕ) → IfSome old (λ xs. read ≡ take_through 10 xs)
    → DropsThrough old new 10 → read ≢ []
    → ((text : List ℕ) → read ≡ take_through 10 text → line ≡ first_line text)
    → IfSome old (λ text. ReadsLine text line new)
took_line None new read line taken rest some is = tt
took_line (Some []) new read line taken rest some is = absurd (some taken)
took_line (Some (b ∷ text)) new read line taken rest some is = (
  drop_through 10 (b ∷ text),
  rest,
  lines_first b text ∙ ap (λ (l : List ℕ). l ∷ lines_of (drop_through 10 (b ∷ text))) (sym (is (b ∷ text) taken)),
)

pub no_line : (text line : List ℕ) → line ≡ take_through 10 text → line ≡ [] → line ≡ first_line text
no_line [] line taken e = e
no_line (b ∷ text) line taken e =
    let none : cond (eqb b 10) (b ∷ []) (b ∷ take_through 10 text) ≡ [] = sym taken ∙ e in
    elim (chosen (eqb b 10)) [
      | inl is ↦ absurd (let bad : b ∷ [] ≡ [] = rw is at none in cc)
      | inr other ↦ absurd (let bad : b ∷ take_through 10 text ≡ [] = rw other at none in cc)
    ]

-- nothing was taken
pub took_nothing : (left : Option (List ℕ)) → IfSome left (λ text. ReadsWithinLine text left)
took_nothing None = tt
took_nothing (Some text) = ([], All-nil (λ (x : ℕ). x ≢ 10), refl)
