-- What contracts see of a world.
use Rattle.std.specs.Prelude.{List, Option}
use Rattle.lk_node_interface.specs.declared.note.Note.{Note}
use Rattle.lk_node.specs.Histories.{Genesis, Datagram}
use Rattle.lk_sim_nodes.specs.declared.end.End.{End}
use Rattle.lk_sim_nodes.specs.declared.sim_node.SimNode.{SimNode}

-- its genesis, the nodes that were ever started, all datagrams that were ever sent, the trace, and how the last event
-- ended a node
pub record WorldState (R : Type 0) : Type 0 where
  pub genesis : Genesis
  pub sim_nodes : List (SimNode R)
  pub sent : List Datagram
  pub trace : List Note
  pub ended : Option End
