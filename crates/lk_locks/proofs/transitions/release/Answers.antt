-- One tactic for each goal that a wrong body breaks.
use Rattle.std.proofs.Common.{rules}
use Rattle.lk_locks.proofs.transitions.release.Goals as goal

pub returns-in-Some-left_by : goal.returns-in-Some-left_by
returns-in-Some-left_by c = search rules
