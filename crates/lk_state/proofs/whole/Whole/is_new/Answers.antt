-- One tactic for each goal that a wrong body breaks.
use Rattle.std.proofs.Common.{rules}
use Rattle.lk_state.proofs.whole.Whole.is_new.Goals as goal

pub returns-in-Some : goal.returns-in-Some
returns-in-Some g c = search rules
