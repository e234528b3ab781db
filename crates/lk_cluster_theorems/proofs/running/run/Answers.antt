use Rattle.lk_cluster_theorems.proofs.Outcomes.{on_value, if_value, if_error, serves_in, breaks_in, rests_in}
use Rattle.lk_cluster_theorems.proofs.running.run.Goals as goal

pub returns-clause-node_run : goal.returns-clause-node_run
returns-clause-node_run g c honest zero genesis cluster all index n whose at =
    let d = g.D.LogDisk in
    on_value c.run_node.result.left _ _
    (serves_in d.is_metered g.S.DatagramSocket.is_observable d.is_honest honest genesis cluster all
    (c.sealed_processes_continue_a_cluster.ensures honest genesis cluster) index n
    (d.disk c.args.resources.device) at _ c.args.plan.now.header whose 281474976710656)
    (c.run_node.ensures.ran_all_turns zero)

pub returns-clause-broken : goal.returns-clause-broken
returns-clause-broken g c honest one genesis cluster all index n whose at =
    let d = g.D.LogDisk in
    if_value c.run_node.result.left _ _
    (breaks_in d.is_metered g.S.DatagramSocket.is_observable d.is_honest honest genesis cluster all
    (c.sealed_processes_continue_a_cluster.ensures honest genesis cluster) index n
    (d.disk c.args.resources.device) at _ c.args.plan.now.header whose 281474976710656)
    (c.run_node.ensures.broken one)

pub returns-clause-rests : goal.returns-clause-rests
returns-clause-rests g c honest genesis cluster all index n whose at =
    let d = g.D.LogDisk in
    if_error c.run_node.result.left _ _
    (λ e refused. rests_in d.is_metered g.S.DatagramSocket.is_observable d.is_honest honest genesis cluster all
    (c.sealed_processes_continue_a_cluster.ensures honest genesis cluster) index n
    (d.disk c.args.resources.device) at _ c.args.plan.now.header whose e.fault (d.disk e.device) refused.refused)
    c.run_node.ensures.refused
