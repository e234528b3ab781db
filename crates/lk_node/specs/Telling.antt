-- Envelopes of a node to another node, and the same message to several.
use Rattle.std.specs.Prelude.{ℕ, List, map}
use Rattle.lk_messages.specs.Grammar.{spelling}
use Rattle.lk_messages.specs.declared.message.NodeMessage.{NodeMessage}
use Rattle.lk_node_interface.specs.Envelopes.{EnvelopeValue}
use Rattle.lk_node_interface.specs.Outboxes.{OutboxValue, with_envelopes}
use Rattle.lk_node_interface.specs.Recipients as recipients
use Rattle.lk_node_interface.specs.Saying.{saying}
use Rattle.lk_node.specs.NodeValue.{NodeValue}
use Rattle.lk_node.specs.Saying.{to_node}

-- the nodes that some set of the window names, in rising order
abbrev pub AreWindowNodes : NodeValue → List ℕ → Type 0
AreWindowNodes node ns = recipients.AreWindowNodes node.learner.whole.roster.sets ns

-- those without the node itself
abbrev pub AreOthers : NodeValue → List ℕ → Type 0
AreOthers node ns = recipients.AreOthers node.learner.whole.roster.sets node.header.node ns

-- the node sends this to that node
abbrev pub envelope_to : NodeValue → NodeMessage → ℕ → EnvelopeValue
envelope_to node message k = record { to = to_node node k; bytes = spelling (saying node.header message) }

-- it sends this to each of these
abbrev pub telling : NodeValue → List ℕ → NodeMessage → OutboxValue → OutboxValue
telling node ns message out = with_envelopes (map (envelope_to node message) ns) out
