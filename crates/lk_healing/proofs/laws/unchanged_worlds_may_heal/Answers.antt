use Rattle.lk_healing.proofs.Histories.{unchanged_may_heal}
use Rattle.lk_healing.proofs.laws.unchanged_worlds_may_heal.Goals as goal

pub returns : goal.returns
returns g c = unchanged_may_heal g.M.Machine.meaning g.M.Machine.IsText
