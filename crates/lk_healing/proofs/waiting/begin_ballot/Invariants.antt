use Rattle.lk_healing.proofs.Waits.{HasWaited}
use Rattle.lk_healing.proofs.waiting.begin_ballot.Given as goal

abbrev pub invariant-ticks : goal.invariant-ticks
invariant-ticks g l = HasWaited g.M.Machine.meaning g.M.Machine.IsText l.fn.node l.fn.world l.counter l.world
