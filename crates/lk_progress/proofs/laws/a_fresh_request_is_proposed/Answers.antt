use Rattle.lk_progress.proofs.Proposing.{request_proposed}
use Rattle.lk_progress.proofs.laws.a_fresh_request_is_proposed.Goals as goal

pub returns : goal.returns
returns g c = request_proposed g.M.Machine.meaning g.M.Machine.IsText
