use Rattle.lk_world_leftovers.proofs.Lagging.{nudged_voter_lasts}
use Rattle.lk_world_leftovers.proofs.laws.a_nudged_voter_lasts.Goals as goal

pub returns : goal.returns
returns g c = nudged_voter_lasts g.M.Machine.meaning g.M.Machine.IsText
