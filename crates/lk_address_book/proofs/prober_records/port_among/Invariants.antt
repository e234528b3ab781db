use Rattle.std.proofs.Common.{◌≡◌, drop}
use Rattle.lk_address_book.specs.Probers.{port_among}
use Rattle.lk_address_book.proofs.prober_records.port_among.Given as goal

-- no member so far is the node
abbrev pub invariant-loop-member : goal.invariant-loop-member
invariant-loop-member l = port_among (drop l.member-index l.members) l.node ≡ port_among l.members l.node
