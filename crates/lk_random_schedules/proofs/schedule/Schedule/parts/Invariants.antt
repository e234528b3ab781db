use Rattle.std.proofs.Common.{length}
use Rattle.std.specs.List.{AllByRecursion}
use Rattle.lk_random_schedules.specs.Drawn.{IsPart}
use Rattle.lk_random_schedules.proofs.schedule.Schedule.parts.Given as goal

abbrev pub invariant-parts : goal.invariant-parts
invariant-parts l = AllByRecursion (IsPart (length l.sent)) l.group_inputs.items
