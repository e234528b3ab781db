use Rattle.lk_cluster_theorems.specs.Sealing.{IsSealed}
use Rattle.lk_cluster_theorems.proofs.Sealing.{seals_forge_nothing, so_reachable}
use Rattle.lk_cluster_theorems.proofs.laws.a_sealed_cluster_forges_nothing.Goals as goal

pub returns : goal.returns
returns g c genesis cluster all =
    so_reachable IsSealed g.D.LogDisk.is_metered g.S.DatagramSocket.is_observable
    (seals_forge_nothing c.is_told_by_a_node.ensures) genesis cluster all
