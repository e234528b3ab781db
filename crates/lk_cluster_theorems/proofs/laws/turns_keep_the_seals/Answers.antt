use Rattle.lk_cluster_theorems.proofs.Sealing.{keeps_seals}
use Rattle.lk_cluster_theorems.proofs.laws.turns_keep_the_seals.Goals as goal

pub returns : goal.returns
returns g c seals first last states turns same =
    keeps_seals _ g.S.DatagramSocket.is_observable seals first states last turns same
