-- Those that are left decide.
use Rattle.std.proofs.Common.{◌≡◌, drop}
use Rattle.lk_members.specs.Ports.{port_in}
use Rattle.lk_node_setup.proofs.resources.named_port.Given as goal

abbrev pub invariant-loop-member : goal.invariant-loop-member
invariant-loop-member l = port_in l.node (drop l.member-index l.members) ≡ port_in l.node l.members
