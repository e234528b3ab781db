use Rattle.lk_watch.proofs.DatagramLaws.{is_of_a_client, names_its_client}
use Rattle.lk_watch.proofs.laws.is_heard_as_a_request.Goals as goal

pub returns-clause-kind : goal.returns-clause-kind
returns-clause-kind c = is_of_a_client

pub returns-clause-client : goal.returns-clause-client
returns-clause-client c = names_its_client
