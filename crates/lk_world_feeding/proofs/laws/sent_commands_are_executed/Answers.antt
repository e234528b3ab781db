use Rattle.lk_world_feeding.proofs.Serving.{sent_executed}
use Rattle.lk_world_feeding.proofs.laws.sent_commands_are_executed.Goals as goal

pub returns : goal.returns
returns g c = sent_executed g.M.Machine.meaning g.M.Machine.IsText c.an_event_is_a_step.ensures
    c.decided_commands_are_executed.ensures
