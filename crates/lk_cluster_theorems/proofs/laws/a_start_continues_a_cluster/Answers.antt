use Rattle.lk_cluster_theorems.specs.Clusters.{ForgesNothing}
use Rattle.lk_cluster_theorems.proofs.Continuing.{start_continues}
use Rattle.lk_cluster_theorems.proofs.laws.a_start_continues_a_cluster.Goals as goal

pub returns : goal.returns
returns g c = start_continues ForgesNothing g.D.LogDisk.is_metered g.S.DatagramSocket.is_observable
