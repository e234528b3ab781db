-- The numbers of the faults that end a script.
use Rattle.std.specs.Prelude.{ℕ}
use Rattle.lk_script_lines.specs.declared.fault.ScriptFault.{ScriptFault}
use Rattle.lk_script_lines.specs.declared.fault.ScriptFault.TheVariants.{Read, Write, ScriptMemory, BadLine, Ended}
use Rattle.lk_script_lines.specs.declared.fault.LineFault.{LineFault}
use Rattle.lk_script_lines.specs.declared.fault.LineFault.TheVariants.{NoMemory, NotUnderstood}

-- the fault's number
abbrev pub number_of : ScriptFault → ℕ
number_of Read = 23
number_of Write = 24
number_of ScriptMemory = 25
number_of (BadLine line) = 26
number_of (Ended refused) = 27

-- the fault of the line of that number
abbrev pub fault_of_line : ℕ → LineFault → ScriptFault
fault_of_line number NoMemory = ScriptMemory
fault_of_line number NotUnderstood = BadLine number
