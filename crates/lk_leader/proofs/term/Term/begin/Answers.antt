-- No two proposals.
use Rattle.lk_leader.proofs.TermLaws.{distinct-none}
use Rattle.lk_leader.proofs.term.Term.begin.Goals as goal

pub invariant_of-result : goal.invariant_of-result
invariant_of-result c = rw c.new-2.ensures distinct-none
