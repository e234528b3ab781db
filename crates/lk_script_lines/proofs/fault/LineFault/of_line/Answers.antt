-- One tactic for each goal that a wrong body breaks.
use Rattle.std.proofs.Common.{rules}
use Rattle.lk_script_lines.proofs.fault.LineFault.of_line.Goals as goal

pub returns-in-NotUnderstood : goal.returns-in-NotUnderstood
returns-in-NotUnderstood c = search rules
