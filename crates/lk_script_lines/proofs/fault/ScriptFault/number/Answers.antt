-- One tactic for each goal that a wrong body breaks.
use Rattle.std.proofs.Common.{rules}
use Rattle.lk_script_lines.proofs.fault.ScriptFault.number.Goals as goal

pub returns-in-Read : goal.returns-in-Read
returns-in-Read c = search rules
