use Rattle.lk_healing.proofs.Gaps.{tells_anew}
use Rattle.lk_healing.proofs.closing.tell_anew.Goals as goal

pub tell-requires-2 : goal.tell-requires-2
tell-requires-2 g c =
    tells_anew g.M.Machine.meaning g.M.Machine.IsText c.args.world.now c.tell.new.world c.args.node c.in_ok-tell.field-0
    c.requires c.in_ok-tell.ensures.ok
