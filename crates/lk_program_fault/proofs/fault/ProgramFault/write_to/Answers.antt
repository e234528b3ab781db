-- One tactic for each goal that a wrong body breaks.
use Rattle.std.proofs.Common.{rules}
use Rattle.lk_program_fault.proofs.fault.ProgramFault.write_to.Goals as goal

pub returns : goal.returns
returns g c = search rules
