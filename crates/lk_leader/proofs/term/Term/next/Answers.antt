-- One tactic for each goal that a wrong body breaks.
use Rattle.std.proofs.Common.{rules}
use Rattle.lk_leader.proofs.term.Term.next.Goals as goal

pub returns-then-not-is_promised_by_majority : goal.returns-then-not-is_promised_by_majority
returns-then-not-is_promised_by_majority c = search rules

pub returns : goal.returns
returns c = search rules
