-- One tactic for each goal that a wrong body breaks.
use Rattle.std.proofs.Common.{rules}
use Rattle.lk_acceptor.proofs.acceptor.Acceptor.accept.Goals as goal

pub returns-then-not-grants_accept-clause-reply : goal.returns-then-not-grants_accept-clause-reply
returns-then-not-grants_accept-clause-reply c = search rules
