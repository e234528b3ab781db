use Rattle.std.proofs.Common.{rules, ◌≡◌, ◌∙◌, ap, sym}
use Rattle.lk_transport.specs.Posts.{SocketPostValue, send_state_of}
use Rattle.lk_server.specs.Servers.{send_state_at}
use Rattle.lk_server.proofs.Carrying.{same_post, hands_on_all, says_nothing}
use Rattle.lk_server.proofs.server.Server.sync_and_send.Goals as goal

pub returns-clause-addresses : goal.returns-clause-addresses
returns-clause-addresses g c =
    let e = c.sync_and_send-delivered.ensures in
    let begun : c.start_group.new.self.addresses ≡ c.args.self.now.addresses = search rules in
    ap (λ (p : SocketPostValue). p.addresses) c.end_group.ensures
    ∙ (same_post g.S.DatagramSocket.is_observable c.sync_and_send-delivered.result _ c.start_group.new.self
    c.sync_and_send-delivered.new.post e.hands e.unsent).1 ∙ begun

pub returns-clause-same : goal.returns-clause-same
returns-clause-same g c =
    let e = c.sync_and_send-delivered.ensures in
    let begun : c.start_group.new.self.node ≡ c.args.self.now.node = search rules in
    record {
      cluster = search rules;
      node = ap (λ (p : SocketPostValue). p.node) c.end_group.ensures
          ∙ (same_post g.S.DatagramSocket.is_observable c.sync_and_send-delivered.result _ c.start_group.new.self
          c.sync_and_send-delivered.new.post e.hands e.unsent).0 ∙ begun;
      pace = search rules;
      queue = search rules;
      aged = search rules;
      spoke = search rules;
      served = search rules;
    }

pub returns-clause-still : goal.returns-clause-still
returns-clause-still g c observable =
    let e = c.sync_and_send-delivered.ensures in
    let begun : c.start_group.new.self.incoming ≡ c.args.self.now.incoming = search rules in
    ap (λ (p : SocketPostValue). p.incoming) c.end_group.ensures
    ∙ (same_post g.S.DatagramSocket.is_observable c.sync_and_send-delivered.result _ c.start_group.new.self
    c.sync_and_send-delivered.new.post e.hands e.unsent).2 observable ∙ begun

pub returns-clause-gives : goal.returns-clause-gives
returns-clause-gives g c =
    let e = c.sync_and_send-delivered.ensures in
    let r = g.R.ServerReplica in
    let observable = g.S.DatagramSocket.is_observable in
    let same = same_post observable c.sync_and_send-delivered.result _ c.start_group.new.self
    c.sync_and_send-delivered.new.post e.hands e.unsent in
    let mine : c.self.inside.replica ≡ c.args.self.now.replica = search rules in
    let begun : send_state_of c.start_group.new.self ≡ send_state_at c.args.self.now.loopback c.args.self.now =
    search rules in
    hands_on_all r.Says r.Gathers observable c.args.self.now _ c.start_group.new.self c.sync_and_send-delivered.new.post
    c.args.group.now c.self.inside.replica mine c.sync_and_send-delivered.result e.hands
    (ap (λ (p : SocketPostValue). p.node) c.end_group.ensures ∙ same.0)
    (ap (λ (p : SocketPostValue). p.addresses) c.end_group.ensures ∙ same.1) begun
    (sym (ap send_state_of c.end_group.ensures))

pub returns-clause-silent : goal.returns-clause-silent
returns-clause-silent g c =
    let e = c.sync_and_send-delivered.ensures in
    let r = g.R.ServerReplica in
    rw (← c.self.view_is) (says_nothing r.Says r.Gathers g.S.DatagramSocket.is_observable _ _ c.start_group.new.self
    c.sync_and_send-delivered.new.post c.args.group.now c.sync_and_send-delivered.result e.silent e.unsent
    (search rules)
    (sym (ap send_state_of c.end_group.ensures)))
