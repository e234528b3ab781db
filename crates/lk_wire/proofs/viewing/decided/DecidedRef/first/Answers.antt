-- One tactic for each goal that a wrong body breaks.
use Rattle.std.proofs.Common.{rules}
use Rattle.lk_wire.proofs.viewing.decided.DecidedRef.first.Goals as goal

pub returns : goal.returns
returns c = search rules
