use Rattle.lk_cluster_theorems.specs.Clusters.{ForgesNothing}
use Rattle.lk_cluster_theorems.proofs.Keeping.{forges_nothing}
use Rattle.lk_cluster_theorems.proofs.Processes.{moves_go_on}
use Rattle.lk_cluster_theorems.proofs.laws.processes_continue_a_cluster.Goals as goal

pub returns : goal.returns
returns g c honest genesis cluster all moves fit may =
    moves_go_on g.D.LogDisk.is_metered g.S.DatagramSocket.is_observable g.D.LogDisk.is_honest honest ForgesNothing
    forges_nothing genesis cluster all moves fit may
