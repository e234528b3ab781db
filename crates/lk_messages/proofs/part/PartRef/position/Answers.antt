-- One tactic for each goal that a wrong body breaks.
use Rattle.std.proofs.Common.{rules}
use Rattle.lk_messages.proofs.part.PartRef.position.Goals as goal

pub returns : goal.returns
returns c = search rules
