use Rattle.lk_healing.proofs.Hands.{HandsEach}
use Rattle.lk_healing.proofs.handing.hand_each.Given as goal

abbrev pub invariant-nodes : goal.invariant-nodes
invariant-nodes g l =
    HandsEach g.M.Machine.meaning g.M.Machine.IsText l.fn.message l.fn.nodes l.fn.world l.i l.world
