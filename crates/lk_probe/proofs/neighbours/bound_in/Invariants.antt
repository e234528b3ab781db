use Rattle.std.proofs.Common.{◌≡◌, drop}
use Rattle.lk_probe.specs.Neighbours.{bound_in}
use Rattle.lk_probe.proofs.neighbours.bound_in.Given as goal

-- no entry so far is one of a node that binds
abbrev pub invariant-loop-entry : goal.invariant-loop-entry
invariant-loop-entry l = bound_in (drop l.entry-index l.entries) ≡ bound_in l.entries
