use Rattle.lk_healing.proofs.Histories.{run_is_history}
use Rattle.lk_healing.proofs.laws.runs_are_histories.Goals as goal

pub returns : goal.returns
returns g c = run_is_history g.M.Machine.meaning g.M.Machine.IsText
