use Rattle.lk_progress.proofs.LeadingOn.{leads_on}
use Rattle.lk_progress.proofs.laws.a_leader_leads_on.Goals as goal

pub returns : goal.returns
returns g c = leads_on g.M.Machine.meaning g.M.Machine.IsText
