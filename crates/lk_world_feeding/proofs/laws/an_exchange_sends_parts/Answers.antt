use Rattle.lk_world_feeding.proofs.Snapshots.{parts_feed}
use Rattle.lk_world_feeding.proofs.laws.an_exchange_sends_parts.Goals as goal

pub returns : goal.returns
returns g c = parts_feed g.M.Machine.meaning g.M.Machine.IsText c.an_event_is_a_step.ensures
    c.deliveries_are_taken.ensures c.a_node_that_is_behind_asks_in_a_world.ensures.keeps
    c.a_node_that_is_ahead_sends.ensures.asked
    c.heard_parts_are_installed.ensures c.states_fit.ensures
