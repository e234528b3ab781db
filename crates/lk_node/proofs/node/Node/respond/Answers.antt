-- One tactic for each goal that a wrong body breaks.
use Rattle.std.proofs.Common.{rules}
use Rattle.lk_node.proofs.node.Node.respond.Goals as goal

pub returns-clause-outbox : goal.returns-clause-outbox
returns-clause-outbox g c = search rules

pub returns-clause-fits : goal.returns-clause-fits
returns-clause-fits g c = search rules
