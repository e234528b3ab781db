use Rattle.lk_world_leftovers.proofs.Catching.{voters_catch}
use Rattle.lk_world_leftovers.proofs.laws.voters_catch_up.Goals as goal

pub returns : goal.returns
returns g c = voters_catch g.M.Machine.meaning g.M.Machine.IsText c.sent_commands_are_executed.ensures
