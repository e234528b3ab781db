use Rattle.lk_progress.proofs.Candidates.{leads_or_hears}
use Rattle.lk_progress.proofs.laws.a_candidate_leads_or_hears_why_not.Goals as goal

pub returns : goal.returns
returns g c = leads_or_hears g.M.Machine.meaning g.M.Machine.IsText
