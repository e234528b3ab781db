use Rattle.std.proofs.Common.{rules, ◌≡◌, ◌∙◌, ℕ, Bool, Option, Some, None, refl, sym, subst}
use Rattle.lk_types.specs.declared.command.Request.{Request}
use Rattle.lk_wire.specs.Shown.{shown, shown_content, shown_node}
use Rattle.lk_messages.specs.declared.message.Message.{Message}
use Rattle.lk_wire.specs.declared.viewing.message.ContentRef.{ContentRef}
use Rattle.lk_address_book.specs.Arrivals.{sender}
use Rattle.lk_address_book.specs.Senders.{RecordsClient, RecordsNode, RecordsContentSender, is_binding, node_in}
use Rattle.lk_address_book.proofs.addresses.Addresses.record_sender.Goals as goal

pub returns-in-Request-clause-heard : goal.returns-in-Request-clause-heard
returns-in-Request-clause-heard c =
    let same : c.in-Ok.message.now.cluster ≡ c.args.cluster = search rules in
    let met : RecordsClient c.request-client.result.client c.args.from c.args.self.now c.record_client.new.self =
    record {
      entry = c.record_client.ensures.entry;
      others = c.record_client.ensures.others;
      nodes = c.record_client.ensures.nodes;
      neighbours = c.record_client.ensures.neighbours;
      hearing = c.record_client.ensures.hearing;
      network = c.record_client.ensures.network;
    } in
    let client : RecordsClient c.in-Request.request.client c.args.from c.args.self.now c.record_client.new.self =
    subst (λ (r : Request). RecordsClient r.client c.args.from c.args.self.now c.record_client.new.self)
    c.request-client.ensures.value met in
    let heard : RecordsContentSender
    (shown_content c.in-Ok.message.now.content) c.args.from c.args.self.now c.record_client.new.self =
    subst (λ (x : ContentRef). RecordsContentSender
    (shown_content x) c.args.from c.args.self.now c.record_client.new.self)
    (sym c.in-Request.is) client in
    record {
      message = λ m s is. subst
          (λ (n : Message). RecordsContentSender n.content c.args.from c.args.self.now c.record_client.new.self)
          (c.in-Ok.ensures.only m s) heard;
      other = λ none. absurd (none (shown c.in-Ok.message.now) c.in-Ok.ensures.found same);
    }

pub returns-in-Node-clause-heard : goal.returns-in-Node-clause-heard
returns-in-Node-clause-heard c =
    let same : c.in-Ok.message.now.cluster ≡ c.args.cluster = search rules in
    let bound : RecordsNode c.in-Node.node c.args.from c.is_binding.result c.args.self.now c.record_node.new.self =
    record {
      entry = c.record_node.ensures.entry;
      moves = c.record_node.ensures.moves;
      clients = c.record_node.ensures.clients;
      meets = c.record_node.ensures.meets;
      hearing = c.record_node.ensures.hearing;
      network = c.record_node.ensures.network;
    } in
    let met : RecordsNode c.in-Node.node c.args.from
    (is_binding (shown_node c.in-Node.said)) c.args.self.now c.record_node.new.self =
    subst (λ (b : Bool). RecordsNode c.in-Node.node c.args.from b c.args.self.now c.record_node.new.self)
    c.is_binding.ensures bound in
    let heard : RecordsContentSender
    (shown_content c.in-Ok.message.now.content) c.args.from c.args.self.now c.record_node.new.self =
    subst (λ (x : ContentRef). RecordsContentSender
    (shown_content x) c.args.from c.args.self.now c.record_node.new.self)
    (sym c.in-Node.is) met in
    record {
      message = λ m s is. subst
          (λ (n : Message). RecordsContentSender n.content c.args.from c.args.self.now c.record_node.new.self)
          (c.in-Ok.ensures.only m s) heard;
      other = λ none. absurd (none (shown c.in-Ok.message.now) c.in-Ok.ensures.found same);
    }

pub returns-in-Request-clause-sent : goal.returns-in-Request-clause-sent
returns-in-Request-clause-sent c =
    let none : node_in (shown_content c.in-Ok.message.now.content) ≡ None =
    subst (λ (x : ContentRef). node_in (shown_content x) ≡ None) (sym c.in-Request.is) refl in
    record {
      message = λ m s is. subst (λ (n : Message). None ≡ node_in n.content) (c.in-Ok.ensures.only m s) (sym none);
      other = λ nobody. refl;
    }

pub returns-in-Node-clause-sent : goal.returns-in-Node-clause-sent
returns-in-Node-clause-sent c =
    let same : c.in-Ok.message.now.cluster ≡ c.args.cluster = search rules in
    let some : node_in (shown_content c.in-Ok.message.now.content) ≡ Some c.in-Node.node =
    subst (λ (x : ContentRef). node_in (shown_content x) ≡ Some c.in-Node.node) (sym c.in-Node.is) refl in
    record {
      message = λ m s is. subst (λ (n : Message). sender c.said.result ≡ node_in n.content) (c.in-Ok.ensures.only m s)
          (c.said.ensures ∙ sym some);
      other = λ none. absurd (none (shown c.in-Ok.message.now) c.in-Ok.ensures.found same);
    }
