-- One tactic for each goal that a wrong body breaks.
use Rattle.std.proofs.Common.{rules}
use Rattle.lk_locks.proofs.transitions.add_sharer.Goals as goal

pub returns : goal.returns
returns c = search rules
