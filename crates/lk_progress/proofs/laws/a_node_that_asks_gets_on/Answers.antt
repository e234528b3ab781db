use Rattle.lk_progress.proofs.GettingOn.{lagging_gets_on}
use Rattle.lk_progress.proofs.laws.a_node_that_asks_gets_on.Goals as goal

pub returns : goal.returns
returns g c = lagging_gets_on g.M.Machine.meaning g.M.Machine.IsText
