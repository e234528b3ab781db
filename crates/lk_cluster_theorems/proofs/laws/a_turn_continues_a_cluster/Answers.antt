use Rattle.lk_cluster_theorems.specs.Clusters.{ForgesNothing}
use Rattle.lk_cluster_theorems.proofs.Continuing.{turn_continues}
use Rattle.lk_cluster_theorems.proofs.Keeping.{forges_nothing}
use Rattle.lk_cluster_theorems.proofs.laws.a_turn_continues_a_cluster.Goals as goal

pub returns : goal.returns
returns g c genesis cluster all index n server at after =
    turn_continues ForgesNothing g.D.LogDisk.is_metered g.S.DatagramSocket.is_observable forges_nothing
    genesis cluster all index n server after at
