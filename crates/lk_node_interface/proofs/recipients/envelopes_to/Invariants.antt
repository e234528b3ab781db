-- The envelopes to the nodes so far.
use Rattle.std.proofs.Common.{◌≡◌, map, take}
use Rattle.lk_node_interface.specs.Recipients.{to_node}
use Rattle.lk_node_interface.proofs.recipients.envelopes_to.Given as goal

abbrev pub invariant-nodes : goal.invariant-nodes
invariant-nodes l = l.envelopes.items
    ≡ map (λ k. record { to = to_node l.roster.sets k; bytes = l.bytes.items }) (take l.node-index l.others)
