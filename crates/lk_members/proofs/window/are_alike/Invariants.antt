-- The sets so far are the last one.
use Rattle.std.proofs.Common.{◌≡◌, ℕ, ◌<◌, [], get_or}
use Rattle.lk_members.specs.Sets.{newest}
use Rattle.lk_members.proofs.window.are_alike.Given as goal

abbrev pub invariant-loop-each : goal.invariant-loop-each
invariant-loop-each l = (k : ℕ) → k < l.each-index → get_or l.sets k [] ≡ newest l.sets
