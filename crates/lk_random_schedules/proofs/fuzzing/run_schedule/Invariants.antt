use Rattle.lk_sim.specs.WorldStates.{WorldState}
use Rattle.lk_random_schedules.specs.Schedules.{Starts, Draws}
use Rattle.lk_random_schedules.specs.Transcripts.{AddsSome}
use Rattle.lk_random_schedules.proofs.fuzzing.run_schedule.Given as goal

-- the nodes are started, and so many events have happened
abbrev pub invariant-events : goal.invariant-events
invariant-events g l = ((started : WorldState g.row.R.Denot) × Starts g.R.MemoryReplica.behaves l.fn.world started
    × Draws g.R.MemoryReplica.behaves l.plan l.counter started l.world)
    × AddsSome g.R.MemoryReplica.behaves l.fn.world l.fn.transcript l.world l.transcript
