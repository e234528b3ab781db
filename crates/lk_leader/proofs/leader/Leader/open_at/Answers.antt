-- One tactic for each goal that a wrong body breaks.
use Rattle.std.proofs.Common.{rules}
use Rattle.lk_leader.proofs.leader.Leader.open_at.Goals as goal

pub returns-then-has_majority : goal.returns-then-has_majority
returns-then-has_majority c = search rules

pub returns : goal.returns
returns c = search rules
