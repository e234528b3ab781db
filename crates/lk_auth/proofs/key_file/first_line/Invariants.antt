use Rattle.std.proofs.Common.{take}
use Rattle.lk_auth.specs.KeyFiles.{IsLine}
use Rattle.lk_auth.proofs.key_file.first_line.Given as goal

-- no line feed stands so far
abbrev pub invariant-loop-at : goal.invariant-loop-at
invariant-loop-at l = IsLine (take l.at l.text)
