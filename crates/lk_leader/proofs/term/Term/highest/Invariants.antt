-- The best of what the promises so far tell.
use Rattle.std.proofs.Common.{take}
use Rattle.lk_leader.specs.Values.{IsBest, promised_at, received_at}
use Rattle.lk_leader.proofs.term.Term.highest.Given as goal

abbrev pub invariant-loop-promise : goal.invariant-loop-promise
invariant-loop-promise l =
    IsBest (promised_at l.position (received_at l.set l.position (take l.promise-index l.self.received))) l.best
