use Rattle.std.proofs.Common.{◌≡◌, map, take}
use Rattle.lk_sim.specs.Groups.{input_of}
use Rattle.lk_sim.proofs.group.inputs_of.Given as goal

abbrev pub invariant-all : goal.invariant-all
invariant-all l = l.inputs.items ≡ map input_of (take l.copy-index l.all)
