-- One tactic for each goal that a wrong body breaks.
use Rattle.std.proofs.Common.{rules}
use Rattle.lk_leader.proofs.leader.Leader.has_promise_of.Goals as goal

pub returns-in-Some : goal.returns-in-Some
returns-in-Some c = search rules
