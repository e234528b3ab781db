use Rattle.lk_address_book.specs.Addresses.{filter_of}
use Rattle.lk_transport.specs.Kept.{KeepsOf}
use Rattle.lk_cluster_theorems.specs.Clusters.{Says}
use Rattle.lk_cluster_theorems.proofs.Saying.{on_ok_so, on_err_so}
use Rattle.lk_cluster_theorems.proofs.turning.run_turn.Goals as goal

pub returns-clause-turn : goal.returns-clause-turn
returns-clause-turn g c honest =
    let observable = g.S.DatagramSocket.is_observable in
    on_ok_so _ (Says g.D.LogDisk.is_metered) (λ old o envelopes new says. says honest)
    (λ frames. KeepsOf c.args.server.now.addresses.seals frames c.args.buffer.now
    c.node_turn-taken.new.buffer) c.node_turn-taken.result observable c.args.server.now c.node_turn-taken.new.server
    c.node_turn-taken.ensures.turn

pub returns-clause-ends : goal.returns-clause-ends
returns-clause-ends g c honest =
    let observable = g.S.DatagramSocket.is_observable in
    on_err_so _ (Says g.D.LogDisk.is_metered)
    (λ old o envelopes new says. says honest) c.node_turn-taken.result observable
    (filter_of c.args.server.now.addresses) c.args.server.now c.node_turn-taken.new.server
    c.node_turn-taken.ensures.ends
