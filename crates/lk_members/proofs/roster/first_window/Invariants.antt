-- The sets so far are those that the empty list names.
use Rattle.std.proofs.Common.{◌≡◌, []}
use Rattle.lk_members.specs.Windows.{sets_from}
use Rattle.lk_members.proofs.roster.first_window.Given as goal

abbrev pub invariant-loop : goal.invariant-loop
invariant-loop l = l.window ≡ sets_from l.genesis [] 1 l.counter
