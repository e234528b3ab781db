use Rattle.lk_cluster_theorems.specs.Clusters.{ForgesNothing}
use Rattle.lk_cluster_theorems.proofs.ComingBack.{comes_back}
use Rattle.lk_cluster_theorems.proofs.Keeping.{forges_nothing}
use Rattle.lk_cluster_theorems.proofs.laws.a_restart_comes_back.Goals as goal

pub returns : goal.returns
returns g c =
    comes_back ForgesNothing g.D.LogDisk.is_metered g.S.DatagramSocket.is_observable forges_nothing
    g.D.LogDisk.is_honest
