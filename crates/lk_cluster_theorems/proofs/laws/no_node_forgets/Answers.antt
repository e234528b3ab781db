use Rattle.lk_cluster_theorems.proofs.Forgetting.{not_forgotten}
use Rattle.lk_cluster_theorems.proofs.laws.no_node_forgets.Goals as goal

pub returns : goal.returns
returns g c genesis cluster all = not_forgotten cluster (c.a_cluster_meets_the_guarantee.ensures genesis cluster all)
