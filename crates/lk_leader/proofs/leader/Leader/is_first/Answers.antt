-- One tactic for each goal that a wrong body breaks.
use Rattle.std.proofs.Common.{rules}
use Rattle.lk_leader.proofs.leader.Leader.is_first.Goals as goal

pub returns-then-is_in_window : goal.returns-then-is_in_window
returns-then-is_in_window c = search rules
