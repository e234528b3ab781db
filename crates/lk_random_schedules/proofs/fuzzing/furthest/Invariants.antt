use Rattle.std.proofs.Common.{drop}
use Rattle.lk_random_schedules.proofs.Furthest.{SoFar}
use Rattle.lk_random_schedules.proofs.fuzzing.furthest.Given as goal

abbrev pub invariant-loop-note : goal.invariant-loop-note
invariant-loop-note l = SoFar l.trace (drop l.note-index l.trace) l.furthest
