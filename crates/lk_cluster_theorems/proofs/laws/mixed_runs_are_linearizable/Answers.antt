use Rattle.std.proofs.Common.{List, subst₂}
use Rattle.lk_types.specs.declared.genesis.Genesis.{Genesis}
use Rattle.lk_node_interface.specs.declared.note.Note.{Note}
use Rattle.lk_guarantees.specs.Linear.{IsLinearizable}
use Rattle.lk_cluster_theorems.specs.Clusters.{ForgesNothing, OnlyDelivers}
use Rattle.lk_cluster_theorems.specs.Processes.{new_cluster}
use Rattle.lk_cluster_theorems.specs.Sealing.{IsSealed}
use Rattle.lk_cluster_theorems.proofs.Processes.{moves_go_on, new_reachable}
use Rattle.lk_cluster_theorems.proofs.Sealing.{delivers_unforged}
use Rattle.lk_cluster_theorems.proofs.laws.mixed_runs_are_linearizable.Goals as goal

pub returns-clause-unforged : goal.returns-clause-unforged
returns-clause-unforged g c honest genesis nodes new moves mix may notes traces =
    let all = new_reachable ForgesNothing g.D.LogDisk.is_metered g.S.DatagramSocket.is_observable genesis nodes new in
    let on = (c.processes_continue_a_cluster.ensures honest genesis (new_cluster genesis nodes) all moves
    (c.mixed_runs_fit.ensures.fit genesis nodes moves mix) may).lead notes traces in
    subst₂ (λ (x : Genesis) (l : List Note). IsLinearizable x l) on.keeps_genesis on.trace
    (c.a_cluster_is_linearizable.ensures genesis on.cluster on.reachable)

pub returns-clause-delivered : goal.returns-clause-delivered
returns-clause-delivered g c honest genesis nodes new moves mix may notes traces =
    let metered = g.D.LogDisk.is_metered in
    let observable = g.S.DatagramSocket.is_observable in
    let all = new_reachable OnlyDelivers metered observable genesis nodes new in
    let on = (moves_go_on metered observable g.D.LogDisk.is_honest honest OnlyDelivers delivers_unforged genesis
    (new_cluster genesis nodes) all moves (c.mixed_runs_fit.ensures.fit genesis nodes moves mix) may).lead notes
    traces in
    subst₂ (λ (x : Genesis) (l : List Note). IsLinearizable x l) on.keeps_genesis on.trace
    (c.a_cluster_is_linearizable.ensures genesis on.cluster
    (c.a_delivering_network_forges_nothing.ensures genesis on.cluster on.reachable))

pub returns-clause-carried : goal.returns-clause-carried
returns-clause-carried g c honest shown genesis nodes new moves mix brought notes traces =
    returns-clause-delivered g c honest genesis nodes new moves mix
    (c.what_sockets_carry_is_delivered.ensures shown genesis moves brought) notes traces

pub returns-clause-sealed : goal.returns-clause-sealed
returns-clause-sealed g c honest genesis nodes new moves mix sealed notes traces =
    let all = new_reachable IsSealed g.D.LogDisk.is_metered g.S.DatagramSocket.is_observable genesis nodes new in
    let on = (c.sealed_processes_continue_a_cluster.ensures honest genesis (new_cluster genesis nodes) all moves
    (c.mixed_runs_fit.ensures.fit genesis nodes moves mix) sealed).lead notes traces in
    subst₂ (λ (x : Genesis) (l : List Note). IsLinearizable x l) on.keeps_genesis on.trace
    (c.a_cluster_is_linearizable.ensures genesis on.cluster
    (c.a_sealed_cluster_forges_nothing.ensures genesis on.cluster on.reachable))
