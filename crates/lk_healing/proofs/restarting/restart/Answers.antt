use Rattle.std.proofs.lemmas.Result.{on_ok_weaker}
use Rattle.lk_healing.proofs.Restarts.{restart_needs, restarted}
use Rattle.lk_healing.proofs.restarting.restart.Goals as goal

pub carry_out-requires : goal.carry_out-requires
carry_out-requires g c =
    restart_needs g.M.Machine.meaning g.M.Machine.IsText c.stop.new.world c.args.node c.facts.ensures.keeps
    c.stop.ensures.0

pub returns-clause-ok : goal.returns-clause-ok
returns-clause-ok g c =
    on_ok_weaker c.carry_out.result
    (λ goes. restarted g.M.Machine.meaning g.M.Machine.IsText c.args.world.now c.stop.new.world c.carry_out.new.world
    c.args.node c.stop.ensures goes) c.carry_out.ensures.ok
