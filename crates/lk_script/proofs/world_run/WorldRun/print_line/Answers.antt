use Rattle.std.proofs.Common.{rules}
use Rattle.lk_script.proofs.world_run.WorldRun.print_line.Goals as goal

pub returns-in_err-instruction-clause-not_understood : goal.returns-in_err-instruction-clause-not_understood
returns-in_err-instruction-clause-not_understood g c =
    λ bad o spells. c.in_err-instruction.ensures.not_understood (search rules) o spells
