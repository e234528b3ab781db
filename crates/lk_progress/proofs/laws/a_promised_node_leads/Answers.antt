use Rattle.lk_progress.proofs.Electing.{promised_leads}
use Rattle.lk_progress.proofs.laws.a_promised_node_leads.Goals as goal

pub returns : goal.returns
returns g c = promised_leads g.M.Machine.meaning g.M.Machine.IsText
