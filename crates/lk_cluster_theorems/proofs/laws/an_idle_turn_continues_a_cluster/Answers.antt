use Rattle.lk_cluster_theorems.specs.Clusters.{ForgesNothing}
use Rattle.lk_cluster_theorems.proofs.Continuing.{idle_continues}
use Rattle.lk_cluster_theorems.proofs.laws.an_idle_turn_continues_a_cluster.Goals as goal

pub returns : goal.returns
returns g c genesis cluster all index n server at after =
    idle_continues ForgesNothing g.D.LogDisk.is_metered g.S.DatagramSocket.is_observable
    genesis cluster all index n server after at
