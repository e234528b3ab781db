use Rattle.lk_cluster_theorems.specs.ThreeNodes.{three_nodes}
use Rattle.lk_cluster_theorems.proofs.ThreeNodes.{three_mix, three_new}
use Rattle.lk_cluster_theorems.proofs.laws.three_nodes_meet_the_premises.Goals as goal

pub returns-clause-new : goal.returns-clause-new
returns-clause-new g c genesis moves run =
    three_new g.D.LogDisk.is_metered g.S.DatagramSocket.is_observable g.D.LogDisk.is_honest genesis moves run

pub returns-clause-mix : goal.returns-clause-mix
returns-clause-mix g c genesis moves run =
    three_mix g.D.LogDisk.is_metered g.S.DatagramSocket.is_observable g.D.LogDisk.is_honest genesis moves run

pub returns-clause-delivered : goal.returns-clause-delivered
returns-clause-delivered g c shown genesis moves run =
    c.what_sockets_carry_is_delivered.ensures shown genesis moves run.brought

pub returns-clause-linearizable : goal.returns-clause-linearizable
returns-clause-linearizable g c honest shown genesis moves run notes traces =
    let metered = g.D.LogDisk.is_metered in
    let observable = g.S.DatagramSocket.is_observable in
    let is_honest = g.D.LogDisk.is_honest in
    c.mixed_runs_are_linearizable.ensures.carried honest shown genesis
    (three_nodes metered observable is_honest genesis run)
    (three_new metered observable is_honest genesis moves run) moves
    (three_mix metered observable is_honest genesis moves run) run.brought notes traces
