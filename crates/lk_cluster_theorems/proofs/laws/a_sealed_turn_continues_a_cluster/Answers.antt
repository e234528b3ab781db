use Rattle.std.proofs.Common.{refl}
use Rattle.lk_address_book.specs.Addresses.{filter_of}
use Rattle.lk_address_book.specs.Filters.{all_filtered}
use Rattle.lk_cluster_theorems.specs.Sealing.{IsSealed}
use Rattle.lk_cluster_theorems.proofs.Continuing.{turn_continues}
use Rattle.lk_cluster_theorems.proofs.Sealing.{seals_forge_nothing}
use Rattle.lk_cluster_theorems.proofs.laws.a_sealed_turn_continues_a_cluster.Goals as goal

pub returns : goal.returns
returns g c genesis cluster all index n server at after key frames only turn alive =
    turn_continues IsSealed g.D.LogDisk.is_metered g.S.DatagramSocket.is_observable
    (seals_forge_nothing c.is_told_by_a_node.ensures) genesis cluster all index n server after at
    (all_filtered (filter_of server.addresses) frames)
    (record { frames = frames; opened = refl; has_key = key; only_nodes_seal = only }) turn alive
