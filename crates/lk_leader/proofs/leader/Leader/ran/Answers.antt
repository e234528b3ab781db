-- One tactic for each goal that a wrong body breaks.
use Rattle.std.proofs.Common.{rules}
use Rattle.lk_leader.proofs.leader.Leader.ran.Goals as goal

pub returns-clause-told : goal.returns-clause-told
returns-clause-told c = search rules
