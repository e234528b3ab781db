use Rattle.std.proofs.Common.{◌≡◌, ◌+◌, drop}
use Rattle.lk_address_book.specs.Addresses.{index_in}
use Rattle.lk_address_book.proofs.addresses.Addresses.index_of.Given as goal

-- no entry so far is the node's
abbrev pub invariant-loop-entry : goal.invariant-loop-entry
invariant-loop-entry l =
    (l.at ≡ l.entry-index) × (index_in l.self.nodes l.node ≡ l.at + index_in (drop l.entry-index l.self.nodes) l.node)
