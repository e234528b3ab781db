-- One tactic for each goal that a wrong body breaks.
use Rattle.std.proofs.Common.{rules}
use Rattle.lk_node.proofs.node.Node.is_snapshot_old.Goals as goal

pub returns : goal.returns
returns g c = search rules
