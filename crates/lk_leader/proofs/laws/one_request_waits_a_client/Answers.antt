-- By the lemmas of ClientLaws.
use Rattle.lk_leader.proofs.ClientLaws.{one_each-asked, one_each-left}
use Rattle.lk_leader.proofs.laws.one_request_waits_a_client.Goals as goal

pub returns-clause-asked : goal.returns-clause-asked
returns-clause-asked c = one_each-asked

pub returns-clause-left : goal.returns-clause-left
returns-clause-left c = one_each-left
