use Rattle.lk_world_feeding.proofs.Serving.{asked_sends, rejected_sends}
use Rattle.lk_world_feeding.proofs.laws.a_node_that_is_ahead_sends_commands.Goals as goal

pub returns-clause-asked : goal.returns-clause-asked
returns-clause-asked g c = asked_sends g.M.Machine.meaning g.M.Machine.IsText c.deliveries_are_taken.ensures
    c.a_node_that_is_ahead_sends.ensures.asked

pub returns-clause-rejected : goal.returns-clause-rejected
returns-clause-rejected g c = rejected_sends g.M.Machine.meaning g.M.Machine.IsText c.deliveries_are_taken.ensures
    c.a_node_that_is_ahead_sends.ensures.hears
