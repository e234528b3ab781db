-- Words of an alpha, read in one way.
use Rattle.std.proofs.Common.{◌≡◌, ◌==◌, ℕ, ◌<◌, ◌≤◌, false, List, [], ◌∷◌, ◌++◌, refl, sym}
use Rattle.std.proofs.Common.{subst, ◌∙◌, arith}
use Rattle.std.specs.Fmt.{decimal}
use Rattle.std.specs.List.{list_any}
use Rattle.std.proofs.lemmas.Fmt.{decimal_injective}
use Rattle.std.proofs.lemmas.List.Folds.{list_any-append}
use Rattle.std.proofs.lemmas.Grind.{common_steps}
use Rattle.lk_word_parsers.specs.Words.{HasNo}
use Rattle.lk_word_parsers.specs.Geneses.{IsAlphaWord}
use Rattle.lk_word_parsers.specs.Geneses.IsAlphaWord.{narrow, wide}
use Rattle.lk_word_parsers.proofs.Splits.{one_parting, has_sign, number_has_no, number_has_no_w}

-- an alpha has no sign below the digits
pub alpha_has_no : (sign : ℕ) → sign < 48 → (alpha : ℕ) (word : List ℕ) → IsAlphaWord alpha word → HasNo sign word
alpha_has_no sign low alpha word (narrow least most is) =
    subst (HasNo sign) (sym is) (number_has_no sign low alpha (omega (arith, most)))
alpha_has_no sign low alpha word (wide least most is) =
    let digits : list_any (λ b. b == sign) (decimal alpha) ≡ false =
    number_has_no sign low alpha (omega (arith, most)) in
    let letter : (119 == sign) ≡ false = grind (arith, common_steps, low) in
    rw (is, list_any-append (λ b. b == sign) (decimal alpha) (119 ∷ []), digits, letter) refl

-- a word without a `w` is no wide one
pub is_narrow : (alpha : ℕ) (word : List ℕ) → HasNo 119 word → IsAlphaWord alpha word
    → (1 ≤ alpha) × (alpha ≤ 16) × (word ≡ decimal alpha)
is_narrow alpha word free (narrow least most is) = (least, most, is)
is_narrow alpha word free (wide least most is) = absurd (has_sign 119 (decimal alpha) [] (subst (HasNo 119) is free))

-- a word with one is wide, and ends there
pub is_wide : (alpha : ℕ) (word digits rest : List ℕ) → HasNo 119 digits → word ≡ digits ++ 119 ∷ rest
    → IsAlphaWord alpha word → (1 ≤ alpha) × (alpha ≤ 64) × (digits ≡ decimal alpha) × (rest ≡ [])
is_wide alpha word digits rest free e (narrow least most is) =
    absurd (has_sign 119 digits rest (subst (HasNo 119) (sym is ∙ e) (number_has_no_w alpha (omega (arith, most)))))
is_wide alpha word digits rest free e (wide least most is) =
    let parts = one_parting 119 digits (decimal alpha) rest [] free (number_has_no_w alpha (omega (arith, most)))
    (sym e ∙ is) in
    (least, most, parts.0, parts.1)

-- a word tells one alpha
pub one_alpha : (m n : ℕ) (word : List ℕ) → IsAlphaWord m word → IsAlphaWord n word → m ≡ n
one_alpha m n word (narrow least most is) b =
    let other = is_narrow n word (subst (HasNo 119) (sym is) (number_has_no_w m (omega (arith, most)))) b in
    decimal_injective m n (omega (arith, most)) (omega (arith, other.1)) (sym is ∙ other.2)
one_alpha m n word (wide least most is) b =
    let other = is_wide n word (decimal m) [] (number_has_no_w m (omega (arith, most))) is b in
    decimal_injective m n (omega (arith, most)) (omega (arith, other.1)) other.2
