use Rattle.lk_sim.proofs.Starting.{nothing_holds}
use Rattle.lk_sim.proofs.world.World.new.Goals as goal

pub invariant_of-result : goal.invariant_of-result
invariant_of-result g c =
    rw (c.new.ensures.items, c.new-2.ensures.items, c.new-3.ensures.items) (nothing_holds _ _ _ c.args.genesis, tt)
