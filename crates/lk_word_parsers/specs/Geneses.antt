-- How words spell members and a genesis.
use Rattle.std.specs.Prelude.{◌≡◌, ◌≤◌, ℕ, List, [], ◌∷◌, ◌++◌, None}
use Rattle.std.specs.Fmt.{decimal}
use Rattle.lk_types.specs.Genesis.{wide_fault}
use Rattle.lk_types.specs.Limits.{max_alpha, max_wide_alpha}
use Rattle.lk_types.specs.Ranges.{IsNode, IsPort}
use Rattle.lk_types.specs.declared.member.Member.{Member}

-- `NODE:PORT`
abbrev pub IsMemberWord : Member → List ℕ → Type 0
IsMemberWord m word = IsNode m.node × IsPort m.port × (word ≡ decimal m.node ++ 58 ∷ decimal m.port)

-- members in words, one or more, separated by a sign
pub data SpellsMembers (sign : ℕ) : List ℕ → List Member → Type 0 where
  one : (m : Member) (word : List ℕ) → IsMemberWord m word → SpellsMembers sign word (m ∷ [])
  more : (m : Member) (word rest : List ℕ) (members : List Member) → IsMemberWord m word
      → SpellsMembers sign rest members → SpellsMembers sign (word ++ sign ∷ rest) (m ∷ members)

-- an alpha: 1 to 16, or 1 to 64 with a `w` behind it, which says that the genesis is wide
pub data IsAlphaWord (alpha : ℕ) (word : List ℕ) : Type 0 where
  narrow : 1 ≤ alpha → alpha ≤ max_alpha → word ≡ decimal alpha → IsAlphaWord alpha word
  wide : 1 ≤ alpha → alpha ≤ max_wide_alpha → word ≡ decimal alpha ++ 119 ∷ [] → IsAlphaWord alpha word

-- `CLUSTER,ALPHA,NODE:PORT,..`, which is valid
pub record SpellsGenesis (text : List ℕ) (cluster alpha : ℕ) (members : List Member) : Type 0 where
  pub alpha_word : List ℕ
  pub words : List ℕ
  pub cluster_fits : cluster ≤ 18446744073709551615
  pub alpha_is : IsAlphaWord alpha alpha_word
  pub text_is : text ≡ decimal cluster ++ 44 ∷ (alpha_word ++ 44 ∷ words)
  pub members_are : SpellsMembers 44 words members
  pub has_no_fault : wide_fault alpha members ≡ None
