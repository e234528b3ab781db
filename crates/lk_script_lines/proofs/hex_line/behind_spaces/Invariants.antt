use Rattle.std.proofs.Common.{◌≡◌, ℕ, ◌++◌, replicate, length}
use Rattle.lk_script_lines.proofs.hex_line.behind_spaces.Given as goal

-- what was passed is spaces
abbrev pub invariant-loop-behind : goal.invariant-loop-behind
invariant-loop-behind l = (n : ℕ) × (l.text ≡ replicate n 32 ++ l.rest)

abbrev pub decreases-loop-behind : goal.decreases-loop-behind
decreases-loop-behind l = length l.rest
