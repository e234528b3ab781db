use Rattle.std.proofs.Common.{take}
use Rattle.lk_word_parsers.specs.Words.{HasNo}
use Rattle.lk_word_parsers.proofs.word.split_once.Given as goal

-- the sign does not stand so far
abbrev pub invariant-loop-at : goal.invariant-loop-at
invariant-loop-at l = HasNo l.sign (take l.at l.text)
