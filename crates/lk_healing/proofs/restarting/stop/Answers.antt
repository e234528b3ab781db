use Rattle.lk_healing.proofs.Restarts.{stop_comes}
use Rattle.lk_healing.proofs.restarting.stop.Goals as goal

pub returns : goal.returns
returns g c =
    stop_comes g.M.Machine.meaning g.M.Machine.IsText c.args.world.now c.apply-stopped.new.self c.args.node
    c.apply-stopped.result c.requires c.facts.ensures.keeps c.facts-2.ensures.keeps c.apply-stopped.ensures.does
    c.apply-stopped.ensures.refused
