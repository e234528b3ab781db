use Rattle.lk_cluster_theorems.proofs.Stopping.{ends_turn}
use Rattle.lk_cluster_theorems.proofs.laws.a_stop_in_a_turn_ends_it.Goals as goal

pub returns : goal.returns
returns g c came server given now stopped =
    ends_turn g.D.LogDisk.is_metered g.S.DatagramSocket.is_observable g.D.LogDisk.is_honest came server given now
    stopped
