-- One tactic for each goal that a wrong body breaks.
use Rattle.std.proofs.Common.{arith}
use Rattle.std.proofs.lemmas.Grind.{common_steps}
use Rattle.lk_state.proofs.packing.put_window.Goals as goal

pub returns : goal.returns
returns c = grind (arith, common_steps)
