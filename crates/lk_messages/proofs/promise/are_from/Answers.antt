-- One tactic for each goal that a wrong body breaks.
use Rattle.std.proofs.Common.{arith}
use Rattle.std.proofs.lemmas.Grind.{common_steps}
use Rattle.lk_messages.proofs.promise.are_from.Goals as goal

pub loop-vote-preserved : goal.loop-vote-preserved
loop-vote-preserved c = grind (arith, common_steps)
