use Rattle.lk_acceptor.proofs.Replying.{prepare_written, accept_written, own_written}
use Rattle.lk_acceptor.proofs.laws.entries_tell_what_is_held.Goals as goal

pub returns-clause-prepare : goal.returns-clause-prepare
returns-clause-prepare c = prepare_written

pub returns-clause-accept : goal.returns-clause-accept
returns-clause-accept c = accept_written

pub returns-clause-own : goal.returns-clause-own
returns-clause-own c = own_written
