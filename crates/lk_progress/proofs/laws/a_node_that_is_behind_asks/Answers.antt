use Rattle.lk_progress.proofs.Feeding.{nack_asks, lead_asks}
use Rattle.lk_progress.proofs.laws.a_node_that_is_behind_asks.Goals as goal

pub returns-clause-rejected : goal.returns-clause-rejected
returns-clause-rejected g c = nack_asks g.M.Machine.meaning g.M.Machine.IsText

pub returns-clause-follows : goal.returns-clause-follows
returns-clause-follows g c = lead_asks g.M.Machine.meaning g.M.Machine.IsText
