use Rattle.lk_healing.proofs.Carrying.{tick_needs}
use Rattle.lk_healing.proofs.carrying_out.nudge.Goals as goal

pub carry_out-requires : goal.carry_out-requires
carry_out-requires g c =
    tick_needs g.M.Machine.meaning g.M.Machine.IsText c.args.world.now c.facts.ensures.keeps c.args.node c.requires.up
