-- The line that begins world mode.
use Rattle.std.specs.Prelude.{◌≡◌, ℕ, None, List, ◌∷◌, ◌++◌, codes}
use Rattle.lk_types.specs.Genesis.{wide_fault}
use Rattle.lk_types.specs.declared.member.Member.{Member}
use Rattle.lk_word_parsers.specs.Geneses.{IsAlphaWord, SpellsMembers}
use Rattle.lk_script_lines.specs.WorldLines.{StartsWithNumber}

-- the words begin with an alpha, followed by a space and these words
abbrev pub StartsWithAlpha : ℕ → List ℕ → List ℕ → Type 0
StartsWithAlpha alpha rest words = (word : List ℕ) × IsAlphaWord alpha word × (words ≡ word ++ 32 ∷ rest)

-- `CLUSTER ALPHA NODE:PORT ..`
pub record SpellsGenesis (words : List ℕ) (cluster alpha : ℕ) (members : List Member) : Type 0 where
  pub more : List ℕ
  pub rest : List ℕ
  pub cluster_leads : StartsWithNumber 0 18446744073709551615 cluster more words
  pub alpha_leads : StartsWithAlpha alpha rest more
  pub members_are : SpellsMembers 32 rest members

-- the line begins a valid cluster
pub record IsGenesisLine (line : List ℕ) (cluster alpha : ℕ) (members : List Member) : Type 0 where
  pub words : List ℕ
  pub line_is : line ≡ codes "genesis" ++ 32 ∷ words
  pub spelled : SpellsGenesis words cluster alpha members
  pub has_no_fault : wide_fault alpha members ≡ None
