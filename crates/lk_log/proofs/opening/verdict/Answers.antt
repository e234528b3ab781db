-- One tactic for each goal that a wrong body breaks.
use Rattle.std.proofs.Common.{rules}
use Rattle.lk_log.proofs.opening.verdict.Goals as goal

pub returns-then-a_generation-b_generation : goal.returns-then-a_generation-b_generation
returns-then-a_generation-b_generation c = search rules

pub returns-then-a_generation-gt0 : goal.returns-then-a_generation-gt0
returns-then-a_generation-gt0 c = search rules
