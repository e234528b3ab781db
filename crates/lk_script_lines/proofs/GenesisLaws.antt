-- Words of a genesis, read in one way.
use Rattle.std.proofs.Common.{◌≡◌, ℕ, List, subst, sym, arith}
use Rattle.lk_types.specs.declared.member.Member.{Member}
use Rattle.lk_word_parsers.specs.Geneses.{IsAlphaWord}
use Rattle.lk_word_parsers.proofs.Splits.{one_way}
use Rattle.lk_word_parsers.proofs.AlphaWords.{alpha_has_no, one_alpha}
use Rattle.lk_script_lines.specs.WorldLines.{StartsWithNumber}
use Rattle.lk_script_lines.specs.GenesisLines.{SpellsGenesis, StartsWithAlpha}
use Rattle.lk_script_lines.proofs.WordLaws.{leads_once}

-- words begin with one alpha, and have one rest
alpha_leads_once : (m n : ℕ) (a b words : List ℕ) → StartsWithAlpha m a words → StartsWithAlpha n b words
    → (m ≡ n) × (a ≡ b)
alpha_leads_once m n a b words x y =
    let parts = one_way words x.0 a y.0 b (alpha_has_no 32 (omega arith) m x.0 x.1) x.2
    (alpha_has_no 32 (omega arith) n y.0 y.1) y.2 in
    (one_alpha m n x.0 x.1 (subst (IsAlphaWord n) (sym parts.0) y.1), parts.1)

-- the numbers in front of the members are told once
pub numbers_once : (words : List ℕ) (cluster alpha : ℕ) (rest : List ℕ)
    → (more : List ℕ) × StartsWithNumber 0 18446744073709551615 cluster more words
    × StartsWithAlpha alpha rest more
    → (c a : ℕ) (ms : List Member) → (s : SpellsGenesis words c a ms) → (alpha ≡ a) × (rest ≡ s.rest)
numbers_once words cluster alpha rest read c a ms s =
    let behind = leads_once 0 18446744073709551615 cluster c read.0 s.more words (omega arith) read.1 s.cluster_leads in
    alpha_leads_once alpha a rest s.rest read.0 read.2
    (subst (λ (t : List ℕ). StartsWithAlpha a s.rest t) (sym behind.1) s.alpha_leads)
