use Rattle.std.proofs.Common.{◌≡◌, map, take}
use Rattle.lk_sim.specs.Groups.{given_by, input_of}
use Rattle.lk_sim.proofs.group.all_copied.Given as goal

abbrev pub invariant-group_inputs : goal.invariant-group_inputs
invariant-group_inputs g l = map input_of l.all.items ≡ map (given_by l.parts.sent.items)
    (take l.group_input-index l.group_inputs)
