-- One tactic for each goal that a wrong body breaks.
use Rattle.std.proofs.Common.{rules}
use Rattle.lk_replica.proofs.replica.Replica.ended.Goals as goal

pub returns : goal.returns
returns g c = search rules
