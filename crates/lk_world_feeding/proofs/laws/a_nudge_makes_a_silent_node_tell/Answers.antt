use Rattle.lk_world_feeding.proofs.Nudging.{silent_tells}
use Rattle.lk_world_feeding.proofs.laws.a_nudge_makes_a_silent_node_tell.Goals as goal

pub returns : goal.returns
returns g c = silent_tells g.M.Machine.meaning g.M.Machine.IsText c.an_event_is_a_step.ensures
