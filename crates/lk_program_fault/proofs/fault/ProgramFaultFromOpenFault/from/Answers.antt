-- One tactic for each goal that a wrong body breaks.
use Rattle.std.proofs.Common.{rules}
use Rattle.lk_program_fault.proofs.fault.ProgramFaultFromOpenFault.from.Goals as goal

pub returns-in-Damaged : goal.returns-in-Damaged
returns-in-Damaged c = search rules
