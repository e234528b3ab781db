use Rattle.std.proofs.Common.{refl}
use Rattle.lk_script_lines.proofs.world_line.read_nudge.Goals as goal

pub returns-in_err-number-clause-none : goal.returns-in_err-number-clause-none
returns-in_err-number-clause-none c = λ _ o is. c.in_err-number.ensures.none refl o is
