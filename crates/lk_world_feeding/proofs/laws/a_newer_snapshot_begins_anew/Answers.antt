use Rattle.lk_world_feeding.proofs.Gathering.{newer_begins_anew}
use Rattle.lk_world_feeding.proofs.laws.a_newer_snapshot_begins_anew.Goals as goal

pub returns : goal.returns
returns g c = newer_begins_anew g.M.Machine.meaning g.M.Machine.IsText c.an_event_is_a_step.ensures
