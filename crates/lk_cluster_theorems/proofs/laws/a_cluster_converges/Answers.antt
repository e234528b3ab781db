use Rattle.lk_cluster_theorems.specs.Clusters.{world_state_of}
use Rattle.lk_cluster_theorems.proofs.laws.a_cluster_converges.Goals as goal

pub returns : goal.returns
returns g c genesis cluster all =
    c.nodes_converge.ensures (world_state_of cluster) (c.a_cluster_meets_the_guarantee.ensures genesis cluster all)
