use Rattle.lk_locks.specs.Meaning.{table_meaning}
use Rattle.lk_guarantees.proofs.Clauses.{locks_behave, guaranteed}
use Rattle.lk_sim.proofs.Networks.{promises_of}
use Rattle.lk_cluster_theorems.specs.Clusters.{ForgesNothing, world_state_of}
use Rattle.lk_cluster_theorems.proofs.Keeping.{reachable_sound, forges_nothing}
use Rattle.lk_cluster_theorems.proofs.Mapped.{mapped, ReplicaStands}
use Rattle.lk_cluster_theorems.proofs.laws.a_cluster_meets_the_guarantee.Goals as goal

pub returns : goal.returns
returns g c genesis cluster all =
    let w = (reachable_sound ForgesNothing g.D.LogDisk.is_metered g.S.DatagramSocket.is_observable forges_nothing
    genesis cluster all).holds in
    guaranteed (world_state_of cluster)
    (promises_of ReplicaStands locks_behave (λ r. r.node.learner.whole) table_meaning
    (λ r h n x shown. shown.held.follows.sums) (world_state_of cluster)
    (mapped cluster.genesis cluster.sim_nodes cluster.sent cluster.trace w))
