use Rattle.std.proofs.Common.{take}
use Rattle.lk_sim.specs.Runs.{AreExecuted}
use Rattle.lk_sim.specs.Worlds.{PartsKeepInvariant, world_state_of}
use Rattle.lk_sim.proofs.happening.happen_all.Given as goal
use Rattle.lk_replica.specs.Behaviours.{disks_by}

abbrev pub invariant-events : goal.invariant-events
invariant-events g l =
    PartsKeepInvariant g.R.MemoryReplica.Shows (disks_by g.R.MemoryReplica.behaves) g.R.MemoryReplica.meaning l.parts
    × AreExecuted g.R.MemoryReplica.behaves (take l.i l.fn.events) (world_state_of l.fn.parts) (world_state_of l.parts)
