use Rattle.lk_acceptor.proofs.Replying.{prepare_covered, accept_covered}
use Rattle.lk_acceptor.proofs.laws.a_reply_is_covered.Goals as goal

pub returns-clause-prepare : goal.returns-clause-prepare
returns-clause-prepare c = prepare_covered

pub returns-clause-accept : goal.returns-clause-accept
returns-clause-accept c = accept_covered
