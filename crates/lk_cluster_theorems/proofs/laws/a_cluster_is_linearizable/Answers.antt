use Rattle.lk_cluster_theorems.specs.Clusters.{world_state_of}
use Rattle.lk_cluster_theorems.proofs.laws.a_cluster_is_linearizable.Goals as goal

pub returns : goal.returns
returns g c genesis cluster all =
    c.worlds_are_linearizable.ensures (world_state_of cluster) (c.a_cluster_meets_the_guarantee.ensures
    genesis cluster all)
