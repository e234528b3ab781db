-- What a view of a reply sees.
use Rattle.std.proofs.Common.{◌≡◌, ℕ, ap, sym, subst}
use Rattle.lk_types.specs.declared.command.Request.{Request}
use Rattle.lk_messages.specs.declared.message.NodeMessage.{NodeMessage}
use Rattle.lk_messages.specs.declared.message.Content.{Content}
use Rattle.lk_messages.specs.declared.message.Content.TheVariants as content
use Rattle.lk_messages.specs.declared.message.Message.{Message}
use Rattle.lk_wire.specs.declared.viewing.message.NodeMessageRef.{NodeMessageRef}
use Rattle.lk_wire.specs.declared.viewing.message.ContentRef.{ContentRef}
use Rattle.lk_wire.specs.declared.viewing.message.ContentRef.TheVariants as seen
use Rattle.lk_wire.specs.declared.viewing.message.MessageRef.{MessageRef}
use Rattle.lk_wire.specs.Shown.{shown, shown_node, shown_content}
use Rattle.lk_client.specs.Replies.{reply_message, reply_of}
use Rattle.lk_client.specs.declared.reply.Reply.{Reply}

-- what a node says there, or that where a client asks
said_of : NodeMessage → Content → NodeMessage
said_of other (content.Node n m) = m
said_of other (content.Request q) = other

-- what a node is seen to say is the reply that is shown
pub same_said : (m : MessageRef) (node : ℕ) (said : NodeMessageRef) (cluster n client number : ℕ) (r : Reply)
    → m.content ≡ seen.Node node said
    → shown m ≡ reply_of cluster n client number r → shown_node said ≡ reply_message client number r
unfolding said_of
same_said m node said cluster n client number r is shows =
    subst (λ (x : ContentRef). said_of (shown_node said) (shown_content x) ≡ reply_message client number r) is
    (ap (λ (x : Message). said_of (shown_node said) x.content) shows)

-- a client asks there
IsAsked : Content → Type 0
IsAsked (content.Request q) = Unit {0}
IsAsked (content.Node n m) = ⊥

-- where a client is seen to ask no reply is shown
pub not_asked : (m : MessageRef) (q : Request) (cluster n client number : ℕ) (r : Reply) → m.content ≡ seen.Request q
    → shown m ≡ reply_of cluster n client number r → ⊥
unfolding IsAsked
not_asked m q cluster n client number r is shows =
    subst IsAsked (ap (λ (x : Message). x.content) shows)
    (subst (λ (x : ContentRef). IsAsked (shown_content x)) (sym is) tt)
