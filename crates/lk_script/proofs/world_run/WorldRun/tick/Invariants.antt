use Rattle.std.proofs.Common.{◌≡◌, ◌+◌, replicate}
use Rattle.lk_sim.specs.Runs.{AreExecuted}
use Rattle.lk_sim.specs.declared.event.Event.TheVariants.{Tick}
use Rattle.lk_script.proofs.world_run.WorldRun.tick.Given as goal

-- so many ticks are done
abbrev pub invariant-ticks : goal.invariant-ticks
invariant-ticks g l = (l.self.done ≡ l.fn.self.done + l.counter)
    × AreExecuted g.R.MemoryReplica.behaves (replicate l.counter (Tick l.fn.node)) l.fn.self.world l.self.world
