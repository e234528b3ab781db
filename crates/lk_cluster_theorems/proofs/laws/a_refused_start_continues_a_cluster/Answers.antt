use Rattle.lk_cluster_theorems.specs.Clusters.{ForgesNothing}
use Rattle.lk_cluster_theorems.proofs.Continuing.{refused_start_continues}
use Rattle.lk_cluster_theorems.proofs.Serving.{refused_rests}
use Rattle.lk_cluster_theorems.proofs.laws.a_refused_start_continues_a_cluster.Goals as goal

pub returns : goal.returns
returns g c honest genesis cluster all index n device at disks same told rests refused left leaves =
    refused_start_continues ForgesNothing g.D.LogDisk.is_metered g.S.DatagramSocket.is_observable genesis cluster all
    index n device at left (refused_rests g.D.LogDisk.is_honest honest cluster.genesis n device left disks same told
    rests refused leaves)
