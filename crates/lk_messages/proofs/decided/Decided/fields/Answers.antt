-- One tactic for each goal that a wrong body breaks.
use Rattle.std.proofs.Common.{rules}
use Rattle.lk_messages.proofs.decided.Decided.fields.Goals as goal

pub returns-clause-first : goal.returns-clause-first
returns-clause-first c = search rules
