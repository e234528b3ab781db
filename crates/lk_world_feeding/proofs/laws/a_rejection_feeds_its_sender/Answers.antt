use Rattle.lk_world_feeding.proofs.Feeding.{rejection_feeds}
use Rattle.lk_world_feeding.proofs.laws.a_rejection_feeds_its_sender.Goals as goal

pub returns : goal.returns
returns g c = rejection_feeds g.M.Machine.meaning g.M.Machine.IsText
    c.a_node_that_is_ahead_sends_commands.ensures.rejected c.sent_commands_are_executed.ensures
