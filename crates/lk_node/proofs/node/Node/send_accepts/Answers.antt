-- One tactic for each goal that a wrong body breaks.
use Rattle.std.proofs.Common.{rules}
use Rattle.lk_node.proofs.node.Node.send_accepts.Goals as goal

pub returns-clause-said : goal.returns-clause-said
returns-clause-said g c = search rules
