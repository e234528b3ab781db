use Rattle.lk_sim.proofs.Snapshots.{on_ok, leaves_packed}
use Rattle.lk_sim.proofs.Running.{of_result, done_grows, refused_grows}
use Rattle.lk_sim.specs.Worlds.{world_state_of}
use Rattle.lk_sim.proofs.world.World.apply.Goals as goal

pub returns-clause-grows : goal.returns-clause-grows
returns-clause-grows g c =
    let old = world_state_of c.self.inside.parts in
    let new = world_state_of c.happen-result.new.parts in
    rw (← c.self.view_is) (of_result _ _ _ c.happen-result.result
    (done_grows g.R.MemoryReplica.behaves old new c.args.event)
    (refused_grows g.R.MemoryReplica.behaves old new c.args.event)
    c.happen-result.ensures.ok c.happen-result.ensures.err)

pub returns-clause-packed : goal.returns-clause-packed
returns-clause-packed g c =
    let old = world_state_of c.self.inside.parts in
    let new = world_state_of c.happen-result.new.parts in
    on_ok _ _ c.happen-result.result
    (leaves_packed g.R.MemoryReplica.behaves g.R.MemoryReplica.Shows g.R.MemoryReplica.whole g.R.MemoryReplica.meaning
    g.met.R.MemoryReplica.packed old new c.self.invariant.0 c.args.event)
    c.happen-result.ensures.ok
