-- Words of numbers, read in one way.
use Rattle.std.proofs.Common.{◌≡◌, ℕ, ◌<◌, ◌^◌, List, sym, subst, ◌∙◌, arith}
use Rattle.std.specs.Fmt.{decimal}
use Rattle.std.proofs.lemmas.Fmt.{decimal_injective}
use Rattle.lk_word_parsers.specs.Words.{HasNoSpace}
use Rattle.lk_word_parsers.proofs.Splits.{has_space, number_has_no_space, one_number_behind}
use Rattle.lk_script_lines.specs.WorldLines.{IsWord, StartsWithNumber}

-- a word tells one number
pub word_once : (least most m n : ℕ) (word : List ℕ) → most < 2 ^ 64 → IsWord least most m word
    → IsWord least most n word → m ≡ n
word_once least most m n word small a b =
    decimal_injective m n (omega (arith, a.1, small)) (omega (arith, b.1, small)) (sym a.2 ∙ b.2)

-- words begin with one number, and have one rest
pub leads_once : (least most m n : ℕ) (a b words : List ℕ) → most < 2 ^ 64 → StartsWithNumber least most m a words
    → StartsWithNumber least most n b words → (m ≡ n) × (a ≡ b)
leads_once least most m n a b words small x y =
    one_number_behind words m n a b (omega (arith, x.1, small)) (omega (arith, y.1, small)) x.2 y.2

-- one number is not a number with words after it
pub not_both : (least most low high m n : ℕ) (rest words : List ℕ) → most < 2 ^ 64 → IsWord least most m words
    → StartsWithNumber low high n rest words → ⊥
not_both least most low high m n rest words small a b =
    has_space (decimal n) rest (subst HasNoSpace (sym a.2 ∙ b.2) (number_has_no_space m (omega (arith, a.1, small))))
