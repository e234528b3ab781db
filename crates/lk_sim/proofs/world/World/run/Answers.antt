use Rattle.lk_sim.proofs.Ends.{run_told}
use Rattle.lk_sim.proofs.Running.{run_grows}
use Rattle.lk_sim.proofs.world.World.run.Goals as goal

pub returns-clause-grows : goal.returns-clause-grows
returns-clause-grows g c =
    rw (← c.self.view_is) (run_grows g.R.MemoryReplica.behaves _ _ c.args.events.now c.happen_all-how.result
    c.happen_all-how.ensures.runs)

pub invariant_of-self : goal.invariant_of-self
invariant_of-self g c = (
  c.happen_all-how.ensures.holds,
  run_told g.R.MemoryReplica.behaves _ _ c.args.events.now c.happen_all-how.result
      c.happen_all-how.ensures.runs c.self.invariant.1,
)
