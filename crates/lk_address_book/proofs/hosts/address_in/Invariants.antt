use Rattle.std.proofs.Common.{◌≡◌, drop}
use Rattle.lk_address_book.specs.Hosts.{host_in}
use Rattle.lk_address_book.proofs.hosts.address_in.Given as goal

-- no line so far is the node's
abbrev pub invariant-loop-other : goal.invariant-loop-other
invariant-loop-other l = host_in l.lines l.node ≡ host_in (drop l.other-index l.lines) l.node
