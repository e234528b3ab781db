use Rattle.lk_progress.proofs.Gathering.{parts_installed}
use Rattle.lk_progress.proofs.laws.heard_parts_are_installed.Goals as goal

pub returns : goal.returns
returns g c = parts_installed g.M.Machine.meaning g.M.Machine.IsText
