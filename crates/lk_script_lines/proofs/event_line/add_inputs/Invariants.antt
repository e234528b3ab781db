use Rattle.std.proofs.Common.{◌≡◌, ◌++◌, drop}
use Rattle.lk_script_lines.specs.EventLines.{then_inputs}
use Rattle.lk_script_lines.proofs.event_line.add_inputs.Given as goal

-- with the parts that are still to come, the text is that of all
abbrev pub invariant-loop-input : goal.invariant-loop-input
invariant-loop-input l = l.text.items ++ then_inputs (drop l.input-index l.inputs)
    ≡ l.fn.text.items ++ then_inputs l.inputs
