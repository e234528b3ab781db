-- Those that are left decide.
use Rattle.std.proofs.Common.{◌≡◌, drop}
use Rattle.lk_members.specs.Ports.{port_in}
use Rattle.lk_members.proofs.set.port_in.Given as goal

abbrev pub invariant-loop-member : goal.invariant-loop-member
invariant-loop-member l = port_in l.node (drop l.member-index l.set) ≡ port_in l.node l.set
