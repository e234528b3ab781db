use Rattle.lk_world_feeding.proofs.Asking.{behind_asks, askers_keep}
use Rattle.lk_world_feeding.proofs.laws.a_node_that_is_behind_asks_in_a_world.Goals as goal

pub returns-clause-asks : goal.returns-clause-asks
returns-clause-asks g c = behind_asks g.M.Machine.meaning g.M.Machine.IsText c.an_event_is_a_step.ensures
    c.a_node_that_is_behind_asks.ensures.rejected c.a_node_that_is_behind_asks.ensures.follows

pub returns-clause-keeps : goal.returns-clause-keeps
returns-clause-keeps g c = askers_keep g.M.Machine.meaning g.M.Machine.IsText c.an_event_is_a_step.ensures
    c.a_node_that_is_behind_asks.ensures.rejected c.a_node_that_is_behind_asks.ensures.follows
