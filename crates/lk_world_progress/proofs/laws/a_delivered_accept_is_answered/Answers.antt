use Rattle.lk_world_progress.proofs.Balloting.{accept_answered}
use Rattle.lk_world_progress.proofs.laws.a_delivered_accept_is_answered.Goals as goal

pub returns : goal.returns
returns g c =
    accept_answered g.M.Machine.meaning g.M.Machine.IsText c.an_accept_is_accepted_or_rejected_for_a_cause.ensures
