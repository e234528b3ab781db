use Rattle.lk_world_feeding.proofs.Feeding.{exchange_feeds}
use Rattle.lk_world_feeding.proofs.laws.an_exchange_feeds_a_node.Goals as goal

pub returns : goal.returns
returns g c = exchange_feeds g.M.Machine.meaning g.M.Machine.IsText c.an_event_is_a_step.ensures
    c.a_node_that_is_behind_asks_in_a_world.ensures.asks c.a_node_that_is_ahead_sends_commands.ensures.asked
    c.sent_commands_are_executed.ensures
