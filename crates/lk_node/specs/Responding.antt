-- How a node replies as an acceptor.
use Rattle.std.specs.Prelude.{◌≡◌, ℕ, if◌then◌else◌}
use Rattle.lk_messages.specs.Grammar.{spelling, IsMessage}
use Rattle.lk_messages.specs.declared.message.NodeMessage.{NodeMessage}
use Rattle.lk_acceptor.specs.AcceptorValue.{AcceptorValue}
use Rattle.lk_acceptor.specs.declared.response.Response.{Response}
use Rattle.lk_node_interface.specs.Grants.{is_granted}
use Rattle.lk_node_interface.specs.Outboxes.{OutboxValue, nothing, with_envelope, with_optional}
use Rattle.lk_node_interface.specs.Saying.{saying}
use Rattle.lk_node.specs.NodeValue.{NodeValue}
use Rattle.lk_node.specs.Saying.{to_node}
use Rattle.lk_node.specs.Yielding.{yielded}

abbrev pub with_acceptor : NodeValue → AcceptorValue → NodeValue
with_acceptor node a = record node { acceptor = a }

-- a leader was heard if the reply grants, and the term ends if the promised ballot is above its own
abbrev pub replied : NodeMessage → NodeValue → NodeValue
replied reply node = yielded node.acceptor.state.promised (if is_granted reply then record node { ticks = 0 } else node)

-- the response's entry is written, and its reply goes to the node that asked
abbrev pub reply_to : NodeValue → ℕ → Response → OutboxValue
reply_to node from r = with_envelope (record { to = to_node node from; bytes = spelling (saying node.header r.reply) })
    (with_optional r.entry nothing)

-- the node's acceptor gives this response, and its reply fits into a datagram
pub record Responds (old : NodeValue) (from : ℕ) (Gives : Response → AcceptorValue → Type 0) (new : NodeValue)
    (out : OutboxValue) : Type 0 where
  pub response : Response
  pub acceptor : AcceptorValue
  pub given : Gives response acceptor
  pub becomes : new ≡ replied response.reply (with_acceptor old acceptor)
  pub fits : IsMessage (saying old.header response.reply)
  pub comes_to : out ≡ reply_to old from response
