-- The others of the nodes so far.
use Rattle.std.proofs.Common.{◌≡◌, ◌==◌, not, filter, take}
use Rattle.lk_node_interface.proofs.recipients.others.Given as goal

abbrev pub invariant-nodes : goal.invariant-nodes
invariant-nodes l = l.others.items ≡ filter (λ k. not (k == l.own_node)) (take l.node-index l.nodes)
