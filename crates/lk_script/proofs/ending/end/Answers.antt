-- One tactic for each goal that a wrong body breaks.
use Rattle.std.proofs.Common.{rules}
use Rattle.lk_script.proofs.ending.end.Goals as goal

pub returns-in-Err-Ok-clause-ran : goal.returns-in-Err-Ok-clause-ran
returns-in-Err-Ok-clause-ran g c = search rules

pub returns-in-Err-Ok-clause-quiet : goal.returns-in-Err-Ok-clause-quiet
returns-in-Err-Ok-clause-quiet g c = search rules
