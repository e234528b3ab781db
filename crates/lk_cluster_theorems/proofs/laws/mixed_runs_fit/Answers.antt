use Rattle.lk_cluster_theorems.proofs.Processes.{mixed_fit, run_leaves}
use Rattle.lk_cluster_theorems.proofs.laws.mixed_runs_fit.Goals as goal

pub returns-clause-fit : goal.returns-clause-fit
returns-clause-fit g c genesis sim_nodes moves mix =
    mixed_fit g.D.LogDisk.is_metered g.S.DatagramSocket.is_observable g.D.LogDisk.is_honest genesis sim_nodes moves mix

pub returns-clause-leave : goal.returns-clause-leave
returns-clause-leave g c genesis sim_nodes moves index node at has =
    run_leaves g.D.LogDisk.is_metered g.S.DatagramSocket.is_observable g.D.LogDisk.is_honest genesis moves
    sim_nodes index
    node at has.own has.last has.run has.are
