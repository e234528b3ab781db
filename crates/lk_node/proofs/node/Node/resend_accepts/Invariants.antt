-- What was told again so far.
use Rattle.lk_node.specs.Reminding.{OffersFirst}
use Rattle.lk_node.specs.SafeSteps.{ActsSafely}
use Rattle.lk_node.proofs.node.Node.resend_accepts.Given as goal

abbrev pub invariant-ahead : goal.invariant-ahead
invariant-ahead g l =
    OffersFirst l.self l.ballot l.fn.out l.ahead l.out
    × ActsSafely g.M.Machine.meaning (λ h. Unit {0}) l.self l.self l.fn.out l.out
