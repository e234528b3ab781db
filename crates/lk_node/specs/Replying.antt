-- The outbox of a step that sends a single message.
use Rattle.std.specs.Prelude.{◌≡◌}
use Rattle.lk_messages.specs.Grammar.{spelling, IsMessage}
use Rattle.lk_messages.specs.declared.message.NodeMessage.{NodeMessage}
use Rattle.lk_node_interface.specs.Outboxes.{OutboxValue, nothing, with_envelope}
use Rattle.lk_node_interface.specs.Saying.{saying}
use Rattle.lk_node_interface.specs.declared.to.To.{To}
use Rattle.lk_node.specs.NodeValue.{NodeValue}

-- the node sends this, which fits into a datagram, and nothing else follows
abbrev pub SaysAlone : NodeValue → To → NodeMessage → OutboxValue → Type 0
SaysAlone node to message out =
    IsMessage (saying node.header message)
    × (out ≡ with_envelope (record { to = to; bytes = spelling (saying node.header message) }) nothing)
