use Rattle.lk_world_progress.proofs.Stepping.{event_steps}
use Rattle.lk_world_progress.proofs.laws.an_event_is_a_step.Goals as goal

pub returns : goal.returns
returns g c = event_steps g.M.Machine.meaning g.M.Machine.IsText
