use Rattle.lk_acceptor.proofs.Replying.{prepare_once, accept_once}
use Rattle.lk_acceptor.proofs.laws.there_is_one_reply.Goals as goal

pub returns-clause-prepare : goal.returns-clause-prepare
returns-clause-prepare c = prepare_once

pub returns-clause-accept : goal.returns-clause-accept
returns-clause-accept c = accept_once
