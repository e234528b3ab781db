use Rattle.lk_leftovers.proofs.Collecting.{promised_fills}
use Rattle.lk_leftovers.proofs.laws.a_promised_candidate_fills.Goals as goal

pub returns : goal.returns
returns g c = promised_fills g.M.Machine.meaning g.M.Machine.IsText c.a_promised_node_leads.ensures
