use Rattle.lk_healing.proofs.Filled.{HasFilledSo}
use Rattle.lk_healing.proofs.filling.fill.Given as goal

abbrev pub invariant-positions : goal.invariant-positions
invariant-positions g l =
    HasFilledSo g.M.Machine.meaning g.M.Machine.IsText l.fn.leader l.fn.nodes l.fn.asking l.fn.world l.counter l.world
    l.next
