use Rattle.lk_cluster_theorems.specs.Sealing.{IsSealed}
use Rattle.lk_cluster_theorems.proofs.Processes.{moves_go_on}
use Rattle.lk_cluster_theorems.proofs.Sealing.{seals_forge_nothing, all_sealed}
use Rattle.lk_cluster_theorems.proofs.laws.sealed_processes_continue_a_cluster.Goals as goal

pub returns : goal.returns
returns g c honest genesis cluster all moves fit sealed =
    let metered = g.D.LogDisk.is_metered in
    let observable = g.S.DatagramSocket.is_observable in
    let is_honest = g.D.LogDisk.is_honest in
    moves_go_on metered observable is_honest honest IsSealed (seals_forge_nothing c.is_told_by_a_node.ensures) genesis
    cluster all moves fit (all_sealed metered observable is_honest cluster.genesis cluster.sent moves sealed)
