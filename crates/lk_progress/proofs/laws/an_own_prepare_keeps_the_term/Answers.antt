use Rattle.lk_progress.proofs.Candidates.{own_keeps}
use Rattle.lk_progress.proofs.laws.an_own_prepare_keeps_the_term.Goals as goal

pub returns : goal.returns
returns g c = own_keeps g.M.Machine.meaning g.M.Machine.IsText
