-- One tactic for each goal that a wrong body breaks.
use Rattle.std.proofs.Common.{rules}
use Rattle.lk_messages.proofs.part.Part.fields.Goals as goal

pub returns-clause-offset : goal.returns-clause-offset
returns-clause-offset c = search rules
