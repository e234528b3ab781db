use Rattle.lk_cluster_theorems.specs.Clusters.{ForgesNothing}
use Rattle.lk_cluster_theorems.proofs.Keeping.{reachable_sound, forges_nothing}
use Rattle.lk_cluster_theorems.proofs.Sealing.{taken_unforged}
use Rattle.lk_cluster_theorems.proofs.laws.a_sealed_datagram_is_not_forged.Goals as goal

pub returns : goal.returns
returns g c genesis cluster all seals key frame only =
    taken_unforged cluster (reachable_sound ForgesNothing g.D.LogDisk.is_metered g.S.DatagramSocket.is_observable
    forges_nothing genesis cluster all) seals frame (c.is_told_by_a_node.ensures seals frame key) only
