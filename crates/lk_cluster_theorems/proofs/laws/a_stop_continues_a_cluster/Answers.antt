use Rattle.lk_cluster_theorems.specs.Clusters.{ForgesNothing}
use Rattle.lk_cluster_theorems.proofs.Continuing.{stop_continues}
use Rattle.lk_cluster_theorems.proofs.laws.a_stop_continues_a_cluster.Goals as goal

pub returns : goal.returns
returns g c = stop_continues ForgesNothing g.D.LogDisk.is_metered g.S.DatagramSocket.is_observable
