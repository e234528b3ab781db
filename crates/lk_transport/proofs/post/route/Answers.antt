-- One tactic for each goal that a wrong body breaks.
use Rattle.std.proofs.Common.{rules}
use Rattle.lk_transport.proofs.post.route.Goals as goal

pub returns-in-Node-default-eq0 : goal.returns-in-Node-default-eq0
returns-in-Node-default-eq0 c = search rules
