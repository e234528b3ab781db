-- The least of the sets so far.
use Rattle.std.proofs.Common.{take}
use Rattle.lk_members.specs.Ports.{IsNextAbove, is_named}
use Rattle.lk_members.proofs.window.Window.named_above.Given as goal

abbrev pub invariant-loop-each : goal.invariant-loop-each
invariant-loop-each l = IsNextAbove (λ k. is_named k (take l.each-index l.self)) l.low l.next
