-- Where the first space, or another sign, of a text stands.
use Rattle.std.proofs.Common.{◌≡◌, ℕ, ◌+◌, ◌%◌, ◌<◌, ◌^◌, ◌==◌, ◌||◌, true, false, List, [], ◌∷◌, ◌++◌, refl, sym, ◌∙◌}
use Rattle.std.proofs.Common.{arith}
use Rattle.std.proofs.lemmas.List.Folds.{list_any-append}
use Rattle.std.proofs.lemmas.Fmt.{decimal_by_steps, decimal_injective}
use Rattle.std.proofs.lemmas.Bool.{eq-eqb}
use Rattle.std.proofs.lemmas.Grind.{common_steps}
use Rattle.std.specs.Fmt.{decimal}
use Rattle.std.specs.List.{list_any}
use Rattle.lk_word_parsers.specs.Words.{HasNo, HasNoSpace}

-- ---- a text is separated at any sign

module _ (sign : ℕ) where
  tail : (z : ℕ) (w : List ℕ) → HasNo sign (z ∷ w) → HasNo sign w
  tail z w h = elim (z == sign) as (λ x. (x || list_any (λ c. c == sign) w) ≡ false → HasNo sign w) [
    | true ↦ λ e. cc e
    | false ↦ λ e. e
  ] h

  no_first : (z : ℕ) (w : List ℕ) → HasNo sign (z ∷ w) → z ≡ sign → ⊥
  no_first z w h e = let same : (z == sign) ≡ true = eq-eqb z sign e in cc (h, same)

  -- a text is separated in one way
  pub one_parting : (a c b d : List ℕ) → HasNo sign a → HasNo sign c → a ++ sign ∷ b ≡ c ++ sign ∷ d → (a ≡ c) × (b ≡ d)
  one_parting [] [] b d ha hc e = (refl, cc e)
  one_parting [] (y ∷ c) b d ha hc e = let first : y ≡ sign = cc e in absurd (no_first y c hc first)
  one_parting (x ∷ a) [] b d ha hc e = let first : x ≡ sign = cc e in absurd (no_first x a ha first)
  one_parting (x ∷ a) (y ∷ c) b d ha hc e =
      let tails : a ++ sign ∷ b ≡ c ++ sign ∷ d = cc e in
      let first : x ≡ y = cc e in
      let rest : (a ≡ c) × (b ≡ d) = one_parting a c b d (tail x a ha) (tail y c hc) tails in
      let words : x ∷ a ≡ y ∷ c = cc (first, rest.0) in
      (words, rest.1)

  -- a text with the sign has one
  pub has_sign : (word rest : List ℕ) → HasNo sign (word ++ sign ∷ rest) → ⊥
  has_sign [] rest h = no_first sign rest h refl
  has_sign (b ∷ word) rest h = has_sign word rest (tail b (word ++ sign ∷ rest) h)

-- ---- a text of words

pub one_way : (text a b c d : List ℕ) → HasNoSpace a → text ≡ a ++ 32 ∷ b → HasNoSpace c
    → text ≡ c ++ 32 ∷ d → (a ≡ c) × (b ≡ d)
one_way text a b c d ha e hc f = one_parting 32 a c b d ha hc (sym e ∙ f)

pub has_space : (word rest : List ℕ) → HasNoSpace (word ++ 32 ∷ rest) → ⊥
has_space = has_sign 32

-- ---- digits are no signs

last : (sign : ℕ) (word : List ℕ) (b : ℕ) → (b == sign) ≡ false → HasNo sign word → HasNo sign (word ++ b ∷ [])
last sign word b e h = rw (list_any-append (λ c. c == sign) word (b ∷ []), h, e) refl

-- a number has no sign below its digits
pub number_has_no : (sign : ℕ) → sign < 48 → (n : ℕ) → n < 2 ^ 64 → HasNo sign (decimal n)
number_has_no sign low = decimal_by_steps (λ _ ds. HasNo sign ds)
    (λ n small. last sign [] (48 + n) (grind (arith, common_steps, low)) refl)
    (λ n ds large h. last sign ds (48 + n % 10) (grind (arith, common_steps, low)) h)

-- as a space is
pub number_has_no_space : (n : ℕ) → n < 2 ^ 64 → HasNoSpace (decimal n)
number_has_no_space = number_has_no 32 (omega arith)

-- nor has it a colon
pub number_has_no_colon : (n : ℕ) → n < 2 ^ 64 → HasNo 58 (decimal n)
number_has_no_colon = decimal_by_steps (λ _ ds. HasNo 58 ds)
    (λ n small. last 58 [] (48 + n) (grind (arith, common_steps)) refl)
    (λ n ds large h. last 58 ds (48 + n % 10) (grind (arith, common_steps)) h)

-- nor a `w`
pub number_has_no_w : (n : ℕ) → n < 2 ^ 64 → HasNo 119 (decimal n)
number_has_no_w = decimal_by_steps (λ _ ds. HasNo 119 ds)
    (λ n small. last 119 [] (48 + n) (grind (arith, common_steps)) refl)
    (λ n ds large h. last 119 ds (48 + n % 10) (grind (arith, common_steps)) h)

-- two numbers with a space after them, in front of the same text, are one
pub one_number_behind : (text : List ℕ) (m n : ℕ) (a b : List ℕ) → m < 2 ^ 64 → n < 2 ^ 64 → text ≡ decimal m ++ 32 ∷ a
    → text ≡ decimal n ++ 32 ∷ b → (m ≡ n) × (a ≡ b)
one_number_behind text m n a b sm sn em en =
    let parts = one_way text (decimal m) a (decimal n) b (number_has_no_space m sm) em (number_has_no_space n sn) en in
    (decimal_injective m n sm sn parts.0, parts.1)
