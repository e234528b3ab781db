use Rattle.std.proofs.Common.{List, ◌++◌, drop, map}
use Rattle.lk_status.specs.Targets.{SpellTargets}
use Rattle.lk_status.specs.declared.target.Target.{Target}
use Rattle.lk_status.proofs.target.targets_of.Given as goal

-- with the targets of the words that are left, they are those of all
abbrev pub invariant-words : goal.invariant-words
invariant-words l = (more : List Target) → SpellTargets (map (λ word. word.now) (drop l.word-index l.words)) more
    → SpellTargets (map (λ word. word.now) l.words) (l.targets.items ++ more)
