-- One tactic for each goal that a wrong body breaks.
use Rattle.std.proofs.Common.{rules}
use Rattle.lk_leader.proofs.term.Term.next_position.Goals as goal

pub returns-then-is_none : goal.returns-then-is_none
returns-then-is_none c = search rules
