use Rattle.lk_world_progress.proofs.Starting.{starts_are_new, ticks_new}
use Rattle.lk_world_progress.proofs.laws.started_nodes_are_new.Goals as goal

pub returns-clause-starts : goal.returns-clause-starts
returns-clause-starts g c = starts_are_new g.M.Machine.meaning g.M.Machine.IsText

pub returns-clause-ticks : goal.returns-clause-ticks
returns-clause-ticks g c = ticks_new g.M.Machine.meaning g.M.Machine.IsText
