-- The text of a genesis, read in one way.
use Rattle.std.proofs.Common.{◌≡◌, ℕ, List, ◌∷◌, ◌++◌, sym, ◌∙◌, arith}
use Rattle.std.specs.Fmt.{decimal}
use Rattle.lk_types.specs.declared.member.Member.{Member}
use Rattle.lk_word_parsers.specs.Words.{HasNo}
use Rattle.lk_word_parsers.specs.Geneses.{SpellsGenesis}
use Rattle.lk_word_parsers.proofs.AlphaWords.{alpha_has_no}
use Rattle.lk_word_parsers.proofs.Splits.{one_parting, number_has_no}

-- the first number, and what stands after its comma
pub cluster_once : (text word words : List ℕ) (cluster alpha : ℕ) (ms : List Member)
    → (s : SpellsGenesis text cluster alpha ms) → HasNo 44 word → text ≡ word ++ 44 ∷ words
    → (word ≡ decimal cluster) × (words ≡ s.alpha_word ++ 44 ∷ s.words)
cluster_once text word words cluster alpha ms s free e =
    one_parting 44 word (decimal cluster) words (s.alpha_word ++ 44 ∷ s.words) free
    (number_has_no 44 (omega arith) cluster (omega (arith, s.cluster_fits))) (sym e ∙ s.text_is)

-- the alpha, and the words of the members
pub alpha_once : (text word words again rest : List ℕ) (cluster alpha : ℕ) (ms : List Member)
    → (s : SpellsGenesis text cluster alpha ms) → HasNo 44 word → text ≡ word ++ 44 ∷ words
    → HasNo 44 again → words ≡ again ++ 44 ∷ rest → (again ≡ s.alpha_word) × (rest ≡ s.words)
alpha_once text word words again rest cluster alpha ms s free e free_again e_again =
    let first = cluster_once text word words cluster alpha ms s free e in
    one_parting 44 again s.alpha_word rest s.words free_again
    (alpha_has_no 44 (omega arith) alpha s.alpha_word s.alpha_is) (sym e_again ∙ first.1)
