use Rattle.lk_healing.proofs.Polls.{DeliversEach}
use Rattle.lk_healing.proofs.polling.deliver_all.Given as goal

abbrev pub invariant-places : goal.invariant-places
invariant-places g l =
    DeliversEach g.M.Machine.meaning g.M.Machine.IsText l.fn.node l.fn.places l.fn.world l.i l.world
