use Rattle.lk_cluster_theorems.proofs.Carrying.{carries_all}
use Rattle.lk_cluster_theorems.proofs.laws.what_sockets_carry_is_delivered.Goals as goal

pub returns : goal.returns
returns g c shown genesis moves brought =
    carries_all g.D.LogDisk.is_metered g.S.DatagramSocket.is_observable g.D.LogDisk.is_honest genesis shown moves
    brought
