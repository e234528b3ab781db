use Rattle.std.proofs.Common.{◌≡◌, ◌++◌, take}
use Rattle.lk_seed.specs.Fences.{all_wanted_past}
use Rattle.lk_seed.proofs.wanted.add_wanted.Given as goal

-- what is wanted of those so far was appended
abbrev pub invariant-loop-name : goal.invariant-loop-name
invariant-loop-name l = l.wanted.items ≡ l.fn.wanted.items ++ all_wanted_past l.past (take l.name-index l.names)
