use Rattle.lk_progress.proofs.Feeding.{want_answered, nack_fed}
use Rattle.lk_progress.proofs.laws.a_node_that_is_ahead_sends.Goals as goal

pub returns-clause-asked : goal.returns-clause-asked
returns-clause-asked g c = want_answered g.M.Machine.meaning g.M.Machine.IsText

pub returns-clause-hears : goal.returns-clause-hears
returns-clause-hears g c = nack_fed g.M.Machine.meaning g.M.Machine.IsText
