use Rattle.lk_rebases.proofs.Staying.{taken_learner}
use Rattle.lk_rebases.proofs.laws.only_decisions_move_a_node.Goals as goal

pub returns : goal.returns
returns g c = taken_learner g.M.Machine.meaning g.M.Machine.IsText
