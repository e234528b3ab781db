use Rattle.lk_world_feeding.proofs.Nudging.{nudges_throw}
use Rattle.lk_world_feeding.proofs.laws.two_nudges_throw_away_what_is_gathered.Goals as goal

pub returns : goal.returns
returns g c = nudges_throw g.M.Machine.meaning g.M.Machine.IsText c.an_event_is_a_step.ensures
