use Rattle.lk_healing.proofs.Restarts.{RestartsEach}
use Rattle.lk_healing.proofs.restarting.restart_each.Given as goal

abbrev pub invariant-nodes : goal.invariant-nodes
invariant-nodes g l = RestartsEach g.M.Machine.meaning g.M.Machine.IsText l.fn.nodes l.fn.world l.i l.world
