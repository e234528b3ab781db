-- The words that spell a name and its wanted fence.
use Rattle.std.specs.Prelude.{◌≡◌, ◌<◌, ⊤, ℕ, List, [], ◌∷◌, ◌++◌}
use Rattle.std.specs.Fmt.{decimal}
use Rattle.lk_types.specs.Limits.{max_count}
use Rattle.lk_seed.specs.declared.wanted.Wanted.{Wanted}

-- the word is NAME:FENCE, and a grant can follow that fence
abbrev pub SpellsWanted : List ℕ → Wanted → Type 0
SpellsWanted word w = (word ≡ w.name ++ 58 ∷ decimal w.fence) × (w.fence < max_count)

-- each word spells what is wanted of a name
abbrev pub SpellAllWanted : List (List ℕ) → List Wanted → Type 0
SpellAllWanted [] [] = ⊤
SpellAllWanted [] (w ∷ ws) = ⊥
SpellAllWanted (word ∷ words) [] = ⊥
SpellAllWanted (word ∷ words) (w ∷ ws) = SpellsWanted word w × SpellAllWanted words ws
