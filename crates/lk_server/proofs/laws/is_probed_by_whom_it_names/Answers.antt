use Rattle.lk_server.proofs.Probed.{by_whom_it_names, by_a_node}
use Rattle.lk_server.proofs.laws.is_probed_by_whom_it_names.Goals as goal

pub returns-clause-keys : goal.returns-clause-keys
returns-clause-keys c = by_whom_it_names

pub returns-clause-node : goal.returns-clause-node
returns-clause-node c = by_a_node
