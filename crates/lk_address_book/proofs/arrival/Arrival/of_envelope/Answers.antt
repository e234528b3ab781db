use Rattle.std.proofs.Common.{rules, ◌≡◌, ◌∙◌, Some, None, refl, sym, subst}
use Rattle.lk_wire.specs.Shown.{shown, shown_content}
use Rattle.lk_messages.specs.declared.message.Message.{Message}
use Rattle.lk_wire.specs.declared.viewing.message.ContentRef.{ContentRef}
use Rattle.lk_address_book.specs.Arrivals.{sender}
use Rattle.lk_address_book.specs.Senders.{node_in}
use Rattle.lk_address_book.proofs.arrival.Arrival.of_envelope.Goals as goal

pub returns-in-Request : goal.returns-in-Request
returns-in-Request c =
    let none : node_in (shown_content c.in-Ok.message.now.content) ≡ None =
    subst (λ (x : ContentRef). node_in (shown_content x) ≡ None) (sym c.in-Request.is) refl in
    record {
      sent = record {
        message = λ m s is. subst (λ (n : Message). None ≡ node_in n.content) (c.in-Ok.ensures.only m s) (sym none);
        other = λ nobody. refl;
      };
    }

pub returns-in-Node : goal.returns-in-Node
returns-in-Node c =
    let same : c.in-Ok.message.now.cluster ≡ c.args.cluster = search rules in
    let some : node_in (shown_content c.in-Ok.message.now.content) ≡ Some c.in-Node.node =
    subst (λ (x : ContentRef). node_in (shown_content x) ≡ Some c.in-Node.node) (sym c.in-Node.is) refl in
    record {
      sent = record {
        message = λ m s is. subst (λ (n : Message). sender c.said.result ≡ node_in n.content) (c.in-Ok.ensures.only m s)
            (c.said.ensures ∙ sym some);
        other = λ none. absurd (none (shown c.in-Ok.message.now) c.in-Ok.ensures.found same);
      };
    }
