use Rattle.std.proofs.Common.{take}
use Rattle.lk_seed.specs.Fences.{HasFences}
use Rattle.lk_seed.proofs.checking.has_fences.Given as goal

-- those so far have their fence
abbrev pub invariant-loop-one : goal.invariant-loop-one
invariant-loop-one l = HasFences (take l.one-index l.wanted) l.names
