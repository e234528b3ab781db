use Rattle.std.proofs.Common.{length}
use Rattle.lk_node.specs.Executing.{Runs}
use Rattle.lk_node.specs.SafeSteps.{ActsSafely}
use Rattle.lk_node.proofs.node.Node.execute.Given as goal

abbrev pub invariant-positions : goal.invariant-positions
invariant-positions g l =
    Runs g.M.Machine.meaning l.fn.self l.fn.out l.self l.out
    × ActsSafely g.M.Machine.meaning (λ h. Unit {0}) l.fn.self l.self l.fn.out l.out

abbrev pub decreases-positions : goal.decreases-positions
decreases-positions g l = length l.self.learner.pairs
