use Rattle.lk_world_progress.proofs.Balloting.{prepare_answered}
use Rattle.lk_world_progress.proofs.laws.a_delivered_prepare_is_answered.Goals as goal

pub returns : goal.returns
returns g c =
    prepare_answered g.M.Machine.meaning g.M.Machine.IsText c.a_prepare_is_promised_or_rejected_for_a_cause.ensures
