-- One tactic for each goal that a wrong body breaks.
use Rattle.std.proofs.Common.{rules}
use Rattle.lk_acceptor.proofs.acceptor.Acceptor.refusal.Goals as goal

pub returns : goal.returns
returns c = search rules
