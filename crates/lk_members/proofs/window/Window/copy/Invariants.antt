-- The sets so far.
use Rattle.std.proofs.Common.{◌≡◌, take}
use Rattle.lk_members.proofs.window.Window.copy.Given as goal

abbrev pub invariant-loop-each : goal.invariant-loop-each
invariant-loop-each l = l.window ≡ take l.each-index l.sets
