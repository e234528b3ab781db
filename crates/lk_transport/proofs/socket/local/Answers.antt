-- One tactic for each goal that a wrong body breaks.
use Rattle.std.proofs.Common.{rules}
use Rattle.lk_transport.proofs.socket.local.Goals as goal

pub returns : goal.returns
returns c = search rules
