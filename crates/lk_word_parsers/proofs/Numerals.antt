-- Numbers in decimal digits, read and written.
use Rattle.std.proofs.Common.{◌≡◌, ◌≢◌, ℕ, ◌<◌, ◌^◌, inl, inr, true, List, [], ◌∷◌, length, get_or, Result, Ok, refl}
use Rattle.std.proofs.Common.{sym, ap, ◌∙◌, subst, arith}
use Rattle.std.proofs.lemmas.Fmt.{first_decimal, decimal_digit, decimal-digits_value, decimal_injective}
use Rattle.std.proofs.lemmas.Str.Parse.{IsNumeralModel, numerals_by_value, tells_digits, parse_plain}
use Rattle.std.proofs.lemmas.Grind.{common_steps}
use Rattle.std.proofs.lemmas.Bool.{cases_lt}
use Rattle.std.specs.Fmt.{decimal}
use Rattle.std.specs.Result.{OkIff}
use Rattle.std.specs.Str.Parse.{AllDigits, digits_value, ParsesUnsigned}
use Rattle.lk_word_parsers.specs.Words.{is_plain}

own : IsNumeralModel (AllDigits 10) (digits_value 10)
own = numerals_by_value (AllDigits 10) tells_digits

no_plus : (ds : List ℕ) → is_plain ds ≡ true → get_or ds 0 0 ≢ 43
no_plus [] h e = cc h
no_plus (b ∷ []) h e = grind (arith, common_steps)
no_plus (b ∷ c ∷ rest) h e = grind (arith, common_steps)

no_zero : (ds : List ℕ) → is_plain ds ≡ true → get_or ds 0 0 ≡ 48 → length ds ≡ 1
no_zero [] h e = cc h
no_zero (b ∷ []) h e = refl
no_zero (b ∷ c ∷ rest) h e = grind (arith, common_steps)

-- what plain digits are read as is written so
pub plain_is_decimal : {E : Type 0} (ds : List ℕ) (r : Result ℕ E) (n : ℕ) → ParsesUnsigned 64 10 ds r → r ≡ Ok n
    → is_plain ds ≡ true → ds ≡ decimal n
plain_is_decimal {E} ds r n h e p =
    let at = parse_plain own 64 ds r h (no_plus ds p) in
    let read : OkIff {T = ℕ} {E = E} (Ok n) (AllDigits 10 ds × (0 < length ds) × (digits_value 10 ds < 2 ^ 64))
    (digits_value 10 ds) = subst
    (λ (x : Result ℕ E). OkIff x (AllDigits 10 ds × (0 < length ds) × (digits_value 10 ds < 2 ^ 64))
    (digits_value 10 ds)) e at in
    sym (decimal-digits_value own ds read.0.0 read.0.1 (no_zero ds p) read.0.2) ∙ ap decimal (sym read.1)

plain_from_first : (ds : List ℕ) → 48 < get_or ds 0 0 → is_plain ds ≡ true
plain_from_first [] h = absurd (omega (arith, h))
plain_from_first (b ∷ []) h = grind (arith, common_steps)
plain_from_first (b ∷ c ∷ rest) h = grind (arith, common_steps)

-- a number is written in plain digits
pub decimal_is_plain : (n : ℕ) → n < 2 ^ 64 → is_plain (decimal n) ≡ true
decimal_is_plain n small = elim (cases_lt 0 n) [
  | inl above ↦ plain_from_first (decimal n) (first_decimal n above small)
  | inr none ↦ let zero_is : n ≡ 0 = omega (arith, none) in
      ap (λ (m : ℕ). is_plain (decimal m)) zero_is ∙ ap is_plain (decimal_digit 0 (omega arith))
]

-- a word tells one number
pub one_number : (m n : ℕ) (word : List ℕ) → m < 2 ^ 64 → n < 2 ^ 64 → word ≡ decimal m → word ≡ decimal n → m ≡ n
one_number m n word sm sn em en = decimal_injective m n sm sn (sym em ∙ en)
