use Rattle.lk_cluster_theorems.specs.Clusters.{ForgesNothing}
use Rattle.lk_cluster_theorems.proofs.Keeping.{forges_nothing}
use Rattle.lk_cluster_theorems.proofs.Processes.{alone_continues}
use Rattle.lk_cluster_theorems.proofs.laws.a_process_continues_a_cluster.Goals as goal

pub returns : goal.returns
returns g c honest genesis cluster all index n run_state last at own run may =
    alone_continues g.D.LogDisk.is_metered g.S.DatagramSocket.is_observable g.D.LogDisk.is_honest honest ForgesNothing
    forges_nothing genesis cluster all index n run_state last at own run may
