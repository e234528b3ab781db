use Rattle.lk_acceptor.proofs.Replying.{prepare_may, accept_may}
use Rattle.lk_acceptor.proofs.laws.a_reply_may_be_sent.Goals as goal

pub returns-clause-prepare : goal.returns-clause-prepare
returns-clause-prepare c = prepare_may

pub returns-clause-accept : goal.returns-clause-accept
returns-clause-accept c = accept_may
