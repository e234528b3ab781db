-- One tactic for each goal that a wrong body breaks.
use Rattle.std.proofs.Common.{rules}
use Rattle.lk_server_replica.proofs.server_replica.ReplicaServerReplica.status.Goals as goal

pub returns : goal.returns
returns g c = search rules
