-- One tactic for each goal that a wrong body breaks.
use Rattle.std.proofs.Common.{rules}
use Rattle.lk_learner.proofs.gathering.add_part.Goals as goal

pub returns-in_err-first_gathered-clause-memory : goal.returns-in_err-first_gathered-clause-memory
returns-in_err-first_gathered-clause-memory c = search rules

pub returns-then-starts_text-clause-ok : goal.returns-then-starts_text-clause-ok
returns-then-starts_text-clause-ok c = search rules

pub returns-in_err-append_part-clause-memory : goal.returns-in_err-append_part-clause-memory
returns-in_err-append_part-clause-memory c = search rules

pub returns-clause-ok : goal.returns-clause-ok
returns-clause-ok c = search rules
