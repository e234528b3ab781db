use Rattle.std.proofs.Common.{◌≡◌, ◌++◌, drop}
use Rattle.lk_script_lines.specs.EventLines.{then_numbers}
use Rattle.lk_script_lines.proofs.event_line.add_numbers.Given as goal

-- with the numbers that are still to come, the text is that of all
abbrev pub invariant-loop-n : goal.invariant-loop-n
invariant-loop-n l = l.text.items ++ then_numbers (drop l.n-index l.numbers) ≡ l.fn.text.items ++ then_numbers l.numbers
