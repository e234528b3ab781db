use Rattle.std.proofs.Common.{List, ◌++◌, drop, map}
use Rattle.lk_seed.specs.Words.{SpellAllWanted}
use Rattle.lk_seed.specs.declared.wanted.Wanted.{Wanted}
use Rattle.lk_main.proofs.seeding.read_names.Given as goal

-- with what the words that are left spell, it is what all spell
abbrev pub invariant-words : goal.invariant-words
invariant-words l = (more : List Wanted) → SpellAllWanted (map (λ word. word.now) (drop l.word-index l.words)) more
    → SpellAllWanted (map (λ word. word.now) l.words) (l.wanted.items ++ more)
