-- One tactic for each goal that a wrong body breaks.
use Rattle.std.proofs.Common.{rules}
use Rattle.lk_acceptor.proofs.acceptor.Acceptor.promise_ballot.Goals as goal

pub returns-clause-entry : goal.returns-clause-entry
returns-clause-entry c = search rules
