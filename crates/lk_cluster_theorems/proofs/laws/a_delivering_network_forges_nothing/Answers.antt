use Rattle.lk_cluster_theorems.specs.Clusters.{OnlyDelivers}
use Rattle.lk_cluster_theorems.proofs.Sealing.{delivers_unforged, so_reachable}
use Rattle.lk_cluster_theorems.proofs.laws.a_delivering_network_forges_nothing.Goals as goal

pub returns : goal.returns
returns g c genesis cluster all =
    so_reachable OnlyDelivers g.D.LogDisk.is_metered g.S.DatagramSocket.is_observable delivers_unforged genesis cluster
    all
