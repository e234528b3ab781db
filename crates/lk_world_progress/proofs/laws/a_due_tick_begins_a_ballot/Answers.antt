use Rattle.lk_world_progress.proofs.Balloting.{tick_begins}
use Rattle.lk_world_progress.proofs.laws.a_due_tick_begins_a_ballot.Goals as goal

pub returns : goal.returns
returns g c = tick_begins g.M.Machine.meaning g.M.Machine.IsText c.a_due_node_asks_its_window.ensures
