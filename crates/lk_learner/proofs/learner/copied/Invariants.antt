-- The commands so far.
use Rattle.std.proofs.Common.{◌≡◌, take}
use Rattle.lk_learner.proofs.learner.copied.Given as goal

abbrev pub invariant-loop-command : goal.invariant-loop-command
invariant-loop-command l = l.copies.items ≡ take l.command-index l.commands
