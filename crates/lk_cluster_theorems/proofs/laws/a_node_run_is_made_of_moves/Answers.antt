use Rattle.lk_cluster_theorems.proofs.Runs.{run_runs, broken_run_runs, led_run_runs, refused_runs}
use Rattle.lk_cluster_theorems.proofs.laws.a_node_run_is_made_of_moves.Goals as goal

pub returns-clause-runs : goal.returns-clause-runs
returns-clause-runs g c genesis index n count disks device same given ended node_run =
    run_runs g.D.LogDisk.is_metered g.S.DatagramSocket.is_observable g.D.LogDisk.is_honest genesis n disks index device
    same node_run

pub returns-clause-breaks : goal.returns-clause-breaks
returns-clause-breaks g c genesis index n most disks device same given ended node_run left leaves =
    broken_run_runs g.D.LogDisk.is_metered g.S.DatagramSocket.is_observable g.D.LogDisk.is_honest genesis n disks index
    device same node_run left leaves

pub returns-clause-is_led : goal.returns-clause-is_led
returns-clause-is_led g c genesis index n most disks device same given ended node_run left kept =
    led_run_runs g.D.LogDisk.is_metered g.S.DatagramSocket.is_observable g.D.LogDisk.is_honest genesis n disks index
    device same node_run left kept

pub returns-clause-is_refused : goal.returns-clause-is_refused
returns-clause-is_refused g c genesis index n disks device same told rests refused left leaves =
    refused_runs g.D.LogDisk.is_metered g.S.DatagramSocket.is_observable g.D.LogDisk.is_honest genesis n disks index
    device same refused left leaves
