-- Those that are left decide.
use Rattle.std.proofs.Common.{◌≡◌, drop}
use Rattle.lk_members.specs.Ports.{port_of}
use Rattle.lk_members.proofs.window.Window.port_of.Given as goal

abbrev pub invariant-loop-each : goal.invariant-loop-each
invariant-loop-each l = port_of l.node (drop l.each-index l.sets) ≡ port_of l.node l.sets
