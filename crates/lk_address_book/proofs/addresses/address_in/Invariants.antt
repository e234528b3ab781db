use Rattle.std.proofs.Common.{◌≡◌, drop}
use Rattle.lk_address_book.specs.Addresses.{node_in}
use Rattle.lk_address_book.proofs.addresses.address_in.Given as goal

-- no entry so far is the node's
abbrev pub invariant-loop-entry : goal.invariant-loop-entry
invariant-loop-entry l = node_in l.entries l.node ≡ node_in (drop l.entry-index l.entries) l.node
