use Rattle.lk_world_progress.proofs.Waiting.{world_ticks_begin}
use Rattle.lk_world_progress.proofs.laws.ticks_begin_a_ballot_in_a_world.Goals as goal

pub returns : goal.returns
returns g c = world_ticks_begin g.M.Machine.meaning g.M.Machine.IsText c.ticks_begin_a_ballot.ensures
