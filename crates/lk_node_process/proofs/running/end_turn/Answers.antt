use Rattle.std.proofs.Common.{ap}
use Rattle.lk_replica.specs.ReplicaValue.{ReplicaValue}
use Rattle.lk_transport.specs.ReceiveBuffers.{BufferValue}
use Rattle.lk_server.specs.Servers.{ServerValue}
use Rattle.lk_node_process.proofs.Turning.{acts_beside, network_after}
use Rattle.lk_node_process.proofs.running.end_turn.Goals as goal

pub returns-in-None-clause-acts : goal.returns-in-None-clause-acts
returns-in-None-clause-acts g c =
    let probes = c.handle_probes-leader in
    acts_beside g.S.DatagramSocket.is_observable c.args.news c.args.buffer.now.asked c.args.buffer.now.reported
    c.args.buffer.now.watched probes.new.buffer.watched c.args.server.now probes.new.self c.handle_watches.new.self
    c.note_joined.new.self c.take_hosts.new.self c.observe_turn.new.server c.observe_turn.ensures probes.ensures.acts
    (ap (λ (b : BufferValue). b.watched) probes.ensures.kept) c.handle_watches.ensures.acts c.note_joined.ensures
    c.take_hosts.ensures

pub returns-in-Some-clause-acts : goal.returns-in-Some-clause-acts
returns-in-Some-clause-acts g c =
    let probes = c.handle_probes-leader in
    acts_beside g.S.DatagramSocket.is_observable c.args.news c.args.buffer.now.asked c.args.buffer.now.reported
    c.args.buffer.now.watched probes.new.buffer.watched c.args.server.now probes.new.self c.handle_watches.new.self
    c.note_joined.new.self c.take_hosts.new.self c.observe_turn.new.server c.observe_turn.ensures probes.ensures.acts
    (ap (λ (b : BufferValue). b.watched) probes.ensures.kept) c.handle_watches.ensures.acts c.note_joined.ensures
    c.take_hosts.ensures

pub returns-in-None-clause-network : goal.returns-in-None-clause-network
returns-in-None-clause-network g c =
    let probes = c.handle_probes-leader in
    network_after c.args.news c.args.server.now probes.new.self c.handle_watches.new.self c.note_joined.new.self
    c.take_hosts.new.self c.observe_turn.new.server probes.ensures.acts.network
    (ap (λ (s : ServerValue ReplicaValue). s.addresses) c.handle_watches.ensures.others) c.note_joined.ensures
    c.take_hosts.ensures c.observe_turn.ensures

pub returns-in-Some-clause-network : goal.returns-in-Some-clause-network
returns-in-Some-clause-network g c =
    let probes = c.handle_probes-leader in
    network_after c.args.news c.args.server.now probes.new.self c.handle_watches.new.self c.note_joined.new.self
    c.take_hosts.new.self c.observe_turn.new.server probes.ensures.acts.network
    (ap (λ (s : ServerValue ReplicaValue). s.addresses) c.handle_watches.ensures.others) c.note_joined.ensures
    c.take_hosts.ensures c.observe_turn.ensures
