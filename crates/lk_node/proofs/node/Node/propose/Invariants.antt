-- What was proposed so far, and so many positions are left.
use Rattle.lk_node.specs.SafeSteps.{ActsSafely}
use Rattle.lk_node.proofs.Proposals.{Continues, left_open}
use Rattle.lk_node.proofs.node.Node.propose.Given as goal

abbrev pub invariant-votes : goal.invariant-votes
invariant-votes g l =
    ActsSafely g.M.Machine.meaning (λ h. Unit {0}) l.fn.self l.self l.fn.out l.out
    × Continues l.fn.self l.self l.fn.out l.out

abbrev pub decreases-votes : goal.decreases-votes
decreases-votes g l = left_open l.self
