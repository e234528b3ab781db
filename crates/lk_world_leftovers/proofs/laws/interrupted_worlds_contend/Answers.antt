use Rattle.lk_world_leftovers.proofs.Interrupted.{interrupted_contend}
use Rattle.lk_world_leftovers.proofs.laws.interrupted_worlds_contend.Goals as goal

pub returns : goal.returns
returns g c = interrupted_contend g.M.Machine.meaning g.M.Machine.IsText c.new_clusters_are_quiet.ensures
    c.a_prepare_is_promised_or_rejected_for_a_cause.ensures c.a_voter_accepts_and_stays.ensures
