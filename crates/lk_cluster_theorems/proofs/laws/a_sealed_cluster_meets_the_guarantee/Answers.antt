use Rattle.lk_cluster_theorems.proofs.laws.a_sealed_cluster_meets_the_guarantee.Goals as goal

pub returns : goal.returns
returns g c genesis cluster all =
    c.a_cluster_meets_the_guarantee.ensures genesis cluster
    (c.a_sealed_cluster_forges_nothing.ensures genesis cluster all)
