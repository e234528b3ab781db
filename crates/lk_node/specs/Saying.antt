-- The address of another node: its number, and its port in the window.
use Rattle.std.specs.Prelude.{ℕ}
use Rattle.lk_node_interface.specs.declared.to.To.{To}
use Rattle.lk_node_interface.specs.Recipients as recipients
use Rattle.lk_node.specs.NodeValue.{NodeValue}

-- a node, and its port in the node's window
abbrev pub to_node : NodeValue → ℕ → To
to_node node from = recipients.to_node node.learner.whole.roster.sets from
